pub mod Table
pub mod Numbering
pub mod Steps
pub mod What
