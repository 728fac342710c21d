pub mod Chain
pub mod Puts
pub mod Verdicts
