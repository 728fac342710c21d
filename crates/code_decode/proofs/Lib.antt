pub mod HandlerLaws
pub mod CodeLaws
pub mod MethodLaws
pub mod FileLaws
pub mod UnitLaws
pub mod PartLaws
