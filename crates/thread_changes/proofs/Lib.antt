pub mod ChangeLemmas
pub mod SaveLemmas
pub mod CountLemmas
