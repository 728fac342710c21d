pub mod Ways
pub mod Counts
pub mod Orders
