pub mod SameLaws
pub mod EntryLaws
pub mod IndexLaws
pub mod UseLaws
pub mod PutLaws
pub mod ItemLaws
