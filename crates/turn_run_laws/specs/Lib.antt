pub mod GivenTurns
pub mod Laws
