-- Instructions and frames as they are written, and as they are read.
pub mod Suits
pub mod Frames
