pub mod Lists
pub mod RuleLaws
pub mod PoolLaws
pub mod LookupLaws
pub mod PoolMarkLaws
pub mod UseLaws
