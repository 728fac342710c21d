pub mod OneAnswer
pub mod Traced
