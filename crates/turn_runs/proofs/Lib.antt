pub mod TurnLemmas
pub mod StretchLemmas
pub mod KeptLemmas
pub mod HostLemmas
