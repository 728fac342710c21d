pub mod NumberLemmas
pub mod SeenLemmas
pub mod EndLemmas
pub mod LineLemmas
