pub mod ReplayLemmas
pub mod TurnLemmas
pub mod BackLemmas
pub mod RoundLemmas
pub mod StepLemmas
pub mod SettleLemmas
pub mod RunLemmas
pub mod ReadLemmas
