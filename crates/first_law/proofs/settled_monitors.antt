pub mod DoomedLemmas
pub mod TurnLemmas
pub mod TurnRows
pub mod SettleLemmas
pub mod StepLemmas
pub mod MarkLemmas
pub mod RunLemmas
