pub mod Seats
pub mod Machine
pub mod Turns
pub mod Silent
pub mod Usual
pub mod ToldTurn
pub mod Resumed
