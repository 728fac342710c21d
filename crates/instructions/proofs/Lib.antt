pub mod TableLaws
pub mod NumberingLaws
