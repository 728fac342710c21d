pub mod Decoded
pub mod Linked
pub mod Verified
pub mod Whole
