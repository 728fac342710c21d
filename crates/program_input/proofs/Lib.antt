pub mod Names
pub mod Inputs
pub mod Takes
pub mod Feeds
