pub mod FieldLaws
pub mod MethodLaws
