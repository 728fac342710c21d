pub mod MadeLaws
pub mod ObjectLaws
pub mod ArgumentLaws
pub mod NameLaws
