pub mod FrameStack
pub mod Layout
