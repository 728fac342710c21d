pub mod AttributeRules
pub mod Repeats
pub mod MemberRules
pub mod ClassRules
pub mod Sound
pub mod ClassFile
