pub mod PremiseLemmas
pub mod ProgramLemmas
pub mod SliceLemmas
