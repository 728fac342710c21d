pub mod Growing
pub mod Places
pub mod Used
pub mod Right
