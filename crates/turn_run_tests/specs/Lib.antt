pub mod InRange
pub mod Ready
