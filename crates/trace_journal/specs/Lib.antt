pub mod Spelling
pub mod Parsing
pub mod Text
pub mod Reading
pub mod Reader
pub mod Laws
pub mod Lines
