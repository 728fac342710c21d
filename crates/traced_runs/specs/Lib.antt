pub mod Told
pub mod Outcome
pub mod Calls
pub mod TracedRun
pub mod Laws
