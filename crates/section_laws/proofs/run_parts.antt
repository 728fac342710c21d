pub mod NextStepLemmas
pub mod NumberLemmas
