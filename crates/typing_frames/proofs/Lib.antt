pub mod FrameLaws
pub mod CompareLaws
pub mod SameLaws
