pub mod BesideLemmas
pub mod StartingLemmas
