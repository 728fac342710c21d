pub mod FieldLaws
pub mod MethodLaws
pub mod EntryLaws
pub mod TableLaws
