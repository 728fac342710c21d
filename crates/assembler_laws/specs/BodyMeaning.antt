-- What the lines of a method's body say of the code that is read.
pub mod Parts
pub mod Instructions
pub mod Tables
pub mod Body
