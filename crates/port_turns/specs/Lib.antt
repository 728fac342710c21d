pub mod Plain
pub mod Place
pub mod Words
pub mod Borrowed
