pub mod NumberLaws
pub mod LocalLaws
pub mod Loop
pub mod ByteLaws
pub mod ItemLaws
pub mod FrameLaws
pub mod TableLaws
pub mod RiseLaws
