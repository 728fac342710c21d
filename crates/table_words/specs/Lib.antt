pub mod Setups
pub mod Parts
pub mod Views
pub mod Rule
pub mod Plays
pub mod Ends
pub mod Tables
pub mod Ports
