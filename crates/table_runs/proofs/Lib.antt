pub mod PathLemmas
pub mod PlaceLemmas
pub mod GoingLemmas
