pub mod PartLemmas
pub mod TagLemmas
pub mod TurnLemmas
pub mod PlaceLemmas
pub mod StepLemmas
pub mod DidLemmas
pub mod RunLemmas
