pub mod Method
pub mod Walk
