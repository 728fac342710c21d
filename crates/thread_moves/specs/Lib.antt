pub mod Items
pub mod Thread
pub mod Change
pub mod Told
