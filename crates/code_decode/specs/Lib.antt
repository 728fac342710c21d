pub mod Answer
pub mod Entry
pub mod Handlers
pub mod Code
pub mod Method
pub mod Unit
pub mod Refusal
