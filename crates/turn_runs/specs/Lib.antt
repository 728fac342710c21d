pub mod Turns
pub mod Looks
pub mod Stretch
pub mod Own
pub mod HostPlaces
