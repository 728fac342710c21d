pub mod GivenLemmas
pub mod JoinLemmas
