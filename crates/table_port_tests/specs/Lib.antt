pub mod Beside
pub mod Starting
