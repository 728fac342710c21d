pub mod OperandLaws
pub mod ClassLaws
pub mod FieldLaws
pub mod LiteralLaws
pub mod ChainLaws
pub mod LiteralUnitLaws
