mod EndLemmas
pub mod StepLemmas
pub mod SizeLemmas
