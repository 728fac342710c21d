pub mod EntryLemmas
pub mod LevelLemmas
pub mod AllowedLemmas
pub mod EventLemmas
pub mod ViewLemmas
pub mod CleanLemmas
