pub mod Positions
pub mod Rows
pub mod Tables
pub mod Descriptors
