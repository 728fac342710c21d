pub mod Instruction
pub mod Meaning
pub mod Frame
