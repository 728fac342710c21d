pub mod Tests
pub mod Making
pub mod Labels
pub mod Marks
pub mod Offsets
pub mod Operands
pub mod Body
pub mod Put
