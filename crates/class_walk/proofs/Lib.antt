pub mod Loop
pub mod Fields
pub mod Laws
pub mod PoolLaws
pub mod ClassLaws
pub mod CodeLaws
