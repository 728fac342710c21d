pub mod Answered
pub mod EndLemmas
