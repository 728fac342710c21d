pub mod PlainLemmas
pub mod LeadLemmas
pub mod StepLemmas
