pub mod KeptLemmas
pub mod ReadyLemmas
