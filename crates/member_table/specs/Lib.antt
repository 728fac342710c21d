pub mod Members
pub mod Search
