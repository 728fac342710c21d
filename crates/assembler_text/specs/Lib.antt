pub mod TextLines
pub mod Reading
