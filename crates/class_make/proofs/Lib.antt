pub mod AssemblyLaws
pub mod WritableLaws
pub mod TextLaws
