pub mod OperandLaws
pub mod StepLaws
pub mod FrameLaws
pub mod HandlerLaws
pub mod PoolLaws
pub mod FileLaws
pub mod CodeLaws
pub mod UseLaws
