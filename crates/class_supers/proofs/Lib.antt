pub mod ClassLaws
pub mod NumberLaws
pub mod RuleLaws
pub mod HeaderLaws
pub mod AboveLaws
pub mod HierarchyLaws
pub mod InterfaceLaws
pub mod OrderLaws
