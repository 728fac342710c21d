pub mod SoundPrograms
pub mod Soundness
pub mod Programs
pub mod ClassFacts
pub mod Starts
pub mod Seen
pub mod Priorities
