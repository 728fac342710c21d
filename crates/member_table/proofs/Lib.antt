pub mod SearchLaws
pub mod GroupLaws
