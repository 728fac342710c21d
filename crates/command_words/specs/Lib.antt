pub mod Cut
pub mod Options
pub mod Grammar
