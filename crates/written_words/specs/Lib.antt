pub mod Writers
pub mod Tags
pub mod Written
pub mod Undone
pub mod Known
pub mod Noted
pub mod SettledWords
pub mod UndoneMonitors
