pub mod Chains
pub mod OnlyLaws
pub mod StageLaws
pub mod AnswerLaws
pub mod MainLaws
pub mod ProgramLaws
