pub mod FrameLemmas
pub mod CallLemmas
pub mod SaveLemmas
pub mod WordLemmas
