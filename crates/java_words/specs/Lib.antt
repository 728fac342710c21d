pub mod WordRun
pub mod HostedRun
pub mod TracedRun
