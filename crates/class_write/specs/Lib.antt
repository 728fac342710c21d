pub mod Writable
pub mod Placed
