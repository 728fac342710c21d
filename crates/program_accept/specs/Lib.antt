pub mod Refusals
pub mod Main
pub mod Accepted
pub mod Answers
pub mod Only
