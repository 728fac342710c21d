pub mod RuleLaws
pub mod SharpLaws
