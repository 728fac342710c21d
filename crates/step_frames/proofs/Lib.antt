pub mod Initialized
pub mod Moved
pub mod Ready
pub mod Tops
