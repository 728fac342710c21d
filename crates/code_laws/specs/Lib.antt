pub mod Steps
pub mod Frames
pub mod Handlers
pub mod File
pub mod Code
pub mod Uses
pub mod Accepted
