pub mod Others
pub mod Methods
