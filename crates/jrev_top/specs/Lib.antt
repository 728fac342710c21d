pub mod Touches
pub mod Headline
