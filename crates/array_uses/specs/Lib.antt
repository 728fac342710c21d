pub mod Most
pub mod Uses
