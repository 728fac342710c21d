pub mod Moves
pub mod Worst
