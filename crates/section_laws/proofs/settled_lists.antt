pub mod ReplayLemmas
pub mod SettledLemmas
pub mod PartLemmas
pub mod MonitorLemmas
