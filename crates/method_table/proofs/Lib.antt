pub mod NativeLaws
pub mod TableLaws
pub mod InitializerLaws
