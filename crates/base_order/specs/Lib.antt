pub mod Sorted
pub mod Bases
pub mod Slots
pub mod Places
pub mod Order
