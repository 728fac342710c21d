pub mod Falling
pub mod SameTypes
