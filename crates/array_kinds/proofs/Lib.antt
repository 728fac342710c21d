pub mod Names
pub mod Bases
