pub mod WorldLaws
pub mod NameLaws
