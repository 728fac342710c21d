pub mod Arrays
pub mod Locals
pub mod Made
pub mod Tops
