pub mod UseLemmas
pub mod OperandLemmas
pub mod ChainLemmas
pub mod BeginLemmas
pub mod CallLemmas
