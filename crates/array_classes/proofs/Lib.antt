pub mod ClassNames
pub mod Few
pub mod Known
pub mod Numbered
