pub mod Computed
pub mod Verified
