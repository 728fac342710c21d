pub mod Answers
pub mod Frames
pub mod Programs
pub mod Walks
pub mod Inside
pub mod Itself
