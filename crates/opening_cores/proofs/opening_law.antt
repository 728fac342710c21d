pub mod PlaceLemmas
pub mod OpeningLemmas
