mod WordLemmas
pub mod OutcomeLemmas
mod HostedLemmas
mod TracedLemmas
