pub mod Local
pub mod Hosted
