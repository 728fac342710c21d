pub mod Implementations
pub mod Tested
