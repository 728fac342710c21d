pub mod CountLemmas
pub mod MoveLemmas
pub mod PlaceLemmas
pub mod GoingLemmas
pub mod SeatedLemmas
