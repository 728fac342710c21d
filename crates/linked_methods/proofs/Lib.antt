pub mod MethodLaws
pub mod ArrayLaws
