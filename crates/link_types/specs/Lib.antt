pub mod LinkKind
pub mod Subtypes
pub mod Types
