pub mod Usual
pub mod Place
pub mod Paths
pub mod Borrowed
