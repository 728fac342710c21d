pub mod Sorted
pub mod Files
pub mod OneAnswer
pub mod Traced
