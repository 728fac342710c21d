pub mod MarkLaws
pub mod OrderLaws
pub mod RelationLaws
