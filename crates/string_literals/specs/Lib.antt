pub mod Texts
pub mod Literals
