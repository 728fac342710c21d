pub mod Mapped
pub mod Making
pub mod Here
