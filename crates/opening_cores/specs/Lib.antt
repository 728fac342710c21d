pub mod Openings
pub mod Laws
pub mod KeptCores
