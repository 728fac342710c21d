pub mod MoveLemmas
pub mod TurnLemmas
