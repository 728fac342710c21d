pub mod Stages
pub mod Laws
pub mod Reading
pub mod Making
