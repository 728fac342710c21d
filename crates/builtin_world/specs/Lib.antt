pub mod BuiltinClass
pub mod Laws
pub mod Library
pub mod MachineException
pub mod Native
