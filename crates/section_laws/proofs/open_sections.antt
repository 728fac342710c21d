pub mod WordLemmas
pub mod DeedLemmas
pub mod RunLemmas
