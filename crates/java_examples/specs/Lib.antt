pub mod One
pub mod Programs
