mod ListLemmas
pub mod JournalLemmas
mod MergeLemmas
mod LevelSteps
pub mod RowSteps
pub mod FlagLemmas
pub mod TurnLemmas
pub mod SilentLemmas
mod TailLemmas
mod MoveLemmas
mod CoverLemmas
mod EndLemmas
mod FinalLemmas
pub mod JournalLaw
