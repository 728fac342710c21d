pub mod Locals
pub mod StackMap
pub mod Reading
