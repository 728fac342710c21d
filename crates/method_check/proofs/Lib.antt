pub mod Told
pub mod Begun
pub mod Flowing
pub mod Kept
pub mod Stepped
pub mod Walked
