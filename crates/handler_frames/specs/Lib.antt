pub mod Methods
pub mod Spans
pub mod Known
