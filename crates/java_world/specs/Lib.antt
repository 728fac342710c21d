pub mod Quicks
pub mod Literals
