pub mod Numbers
pub mod ArrayClasses
