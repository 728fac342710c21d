pub mod Key
pub mod Uses
pub mod Indexed
pub mod Items
