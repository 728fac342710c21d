pub mod Numbers
pub mod Entries
pub mod Rows
pub mod Selection
