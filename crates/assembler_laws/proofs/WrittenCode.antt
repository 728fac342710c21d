-- Bytes of written instructions and frames are read in one way alone.
pub mod NumberLaws
pub mod SwitchLaws
pub mod OperandLaws
pub mod CodeLaws
pub mod FrameLaws
