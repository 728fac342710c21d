pub mod WordLemmas
pub mod ViewLemmas
pub mod DeedLemmas
pub mod OwnLemmas
pub mod MoveLemmas
pub mod PinLemmas
pub mod SeenLemmas
