pub mod Told
pub mod Leaving
pub mod Rows
