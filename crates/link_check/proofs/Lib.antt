pub mod NameLaws
pub mod RuleLaws
