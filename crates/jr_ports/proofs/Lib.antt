pub mod Files
pub mod Gained
pub mod Joined
