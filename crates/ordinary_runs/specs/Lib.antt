pub mod Turns
pub mod ScheduledRun
pub mod Laws
