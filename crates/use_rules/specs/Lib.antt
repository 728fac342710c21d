pub mod Facts
pub mod FoundRules
pub mod Names
