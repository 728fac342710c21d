pub mod NamedLemmas
pub mod OldLemmas
pub mod BackLemmas
pub mod TextLemmas
