pub mod Rings
pub mod Linked
pub mod Orders
