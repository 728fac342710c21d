pub mod MoveLemmas
pub mod SumLemmas
pub mod MeetLemmas
pub mod CountLemmas
pub mod DrawLemmas
pub mod TakeLemmas
pub mod PlaceLemmas
pub mod ReadyLemmas
