mod ListLemmas
mod EndLemmas
pub mod CountLemmas
mod LineLemmas
pub mod ReadyLemmas
pub mod RunLemmas
mod FollowLemmas
mod ComeLemmas
mod StartLemmas
mod OrderLemmas
mod SilentLemmas
mod LowestLemmas
mod StretchLemmas
mod KeepLemmas
mod GiveLemmas
mod UsualLemmas
