pub mod Pool
pub mod Lookup
pub mod PoolTest
pub mod PoolRules
pub mod PoolMarks
pub mod TextUses
pub mod Answers
pub mod Refusal
