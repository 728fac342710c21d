pub mod RowLemmas
pub mod TurnLemmas
pub mod OtherLemmas
pub mod RunLemmas
pub mod LevelLemmas
