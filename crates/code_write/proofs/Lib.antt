pub mod Kept
pub mod SizeLaws
pub mod CodeLaws
pub mod FrameLaws
