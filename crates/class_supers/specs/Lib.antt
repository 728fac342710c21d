pub mod Answers
pub mod Numbers
pub mod Headers
pub mod Above
pub mod Hierarchy
