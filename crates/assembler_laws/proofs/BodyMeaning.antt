-- The code of a body that was made is what its lines say.
pub mod RowLaws
pub mod NumberLaws
pub mod GrammarLaws
pub mod PlaceLaws
pub mod WritesLaws
pub mod OperandLaws
pub mod InstructionLaws
pub mod HandlerLaws
pub mod FrameLaws
pub mod MeaningLaws
pub mod TableReads
pub mod PartLaws
pub mod LineLaws
pub mod BodyLaws
