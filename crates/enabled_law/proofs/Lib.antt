pub mod TurnLemmas
pub mod StayLemmas
pub mod WatchLemmas
pub mod CountLemmas
pub mod ForgettingLemmas
