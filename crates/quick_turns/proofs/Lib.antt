pub mod UsualLemmas
pub mod LeadLemmas
pub mod StepLemmas
pub mod PathLemmas
