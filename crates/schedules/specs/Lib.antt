pub mod Schedule
pub mod Run
pub mod Laws
