pub mod Fixed
pub mod Opening
