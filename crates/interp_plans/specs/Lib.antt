pub mod Uses
pub mod Initializing
pub mod Replies
pub mod Todos
pub mod Operands
pub mod Calls
pub mod Jobs
