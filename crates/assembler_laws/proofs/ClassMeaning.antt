-- The class file that a text stands for is what its lines say.
pub mod Bodies
pub mod BodyLaws
pub mod MemberLaws
pub mod SaidLaws
pub mod LeaveLaws
pub mod PartLaws
pub mod EndLaws
pub mod LineLaws
pub mod MeaningLaws
pub mod DecodeLaws
