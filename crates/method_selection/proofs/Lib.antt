pub mod NumberLaws
pub mod MethodLaws
pub mod RowLaws
pub mod SelectionLaws
