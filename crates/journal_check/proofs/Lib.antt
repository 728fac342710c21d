pub mod ProgressLemmas
pub mod CheckingLemmas
pub mod LawLemmas
