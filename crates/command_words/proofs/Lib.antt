pub mod Slashes
pub mod CutLaws
pub mod OrderLaws
pub mod GivenLaws
