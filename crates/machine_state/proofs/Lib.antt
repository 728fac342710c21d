pub mod UnitLemmas
pub mod ChangeLemmas
pub mod MachineLemmas
pub mod StartLemmas
pub mod SilentLemmas
pub mod WriteLemmas
