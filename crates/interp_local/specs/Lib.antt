pub mod Frames
pub mod Effects
pub mod Steps
pub mod Quick
pub mod Runs
