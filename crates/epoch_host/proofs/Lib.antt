pub mod Families
pub mod Becoming
pub mod Chunking
pub mod Working
pub mod Handing
