pub mod ListLemmas
pub mod NameLemmas
pub mod OwnedLemmas
pub mod LaidLemmas
pub mod PlaceLemmas
pub mod FillLemmas
pub mod RunLemmas
