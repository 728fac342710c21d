pub mod Strings
pub mod Constants
pub mod Start
