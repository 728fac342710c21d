pub mod Counts
pub mod Readiness
pub mod Outcome
pub mod Going
pub mod Ends
pub mod Lines
pub mod ScheduledRun
