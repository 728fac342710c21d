-- What the lines of a text say of the class file that is read.
pub mod Parts
pub mod Class
