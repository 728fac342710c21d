pub mod Moves
pub mod Enabled
pub mod WordTurns
pub mod Laws
