pub mod TurnsAlone
pub mod Watched
pub mod Laws
pub mod Forgetting
