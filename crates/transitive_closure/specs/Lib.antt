pub mod Relation
pub mod Rank
