pub mod AttemptLemmas
pub mod WordLemmas
pub mod StepLemmas
pub mod RunLemmas
