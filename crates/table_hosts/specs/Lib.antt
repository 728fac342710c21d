pub mod Standing
pub mod Families
pub mod Seated
pub mod Slices
pub mod Turns
pub mod Tallies
pub mod HostSteps
