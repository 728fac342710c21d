pub mod TinyMethods
pub mod TinyProgram
