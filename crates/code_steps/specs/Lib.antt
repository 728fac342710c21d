pub mod Operands
pub mod CodeArray
pub mod Reading
pub mod FirstFault
pub mod Targets
