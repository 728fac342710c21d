pub mod HeldLemmas
pub mod StackLemmas
pub mod DepthLemmas
pub mod DeepenedLemmas
pub mod AnswerLemmas
pub mod ToldLemmas
