pub mod Row
pub mod Rows
pub mod Objects
pub mod Layout
