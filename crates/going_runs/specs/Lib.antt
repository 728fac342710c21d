pub mod Places
pub mod HandedOver
