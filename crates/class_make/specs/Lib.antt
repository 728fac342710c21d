pub mod Class
pub mod Assembly
pub mod States
pub mod Texts
