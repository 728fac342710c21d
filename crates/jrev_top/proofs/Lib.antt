pub mod Ended
pub mod Asked
