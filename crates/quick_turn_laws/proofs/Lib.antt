pub mod PassLemmas
pub mod WaitLemmas
