pub mod Texts
pub mod Sorting
pub mod Arrays
