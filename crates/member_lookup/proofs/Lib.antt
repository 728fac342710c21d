pub mod RowLaws
pub mod SourceLaws
pub mod FoundLaws
pub mod ReferenceLaws
pub mod FinalLaws
pub mod PlaceLaws
