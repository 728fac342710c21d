pub mod ToyLemmas
pub mod ToyLawLemmas
