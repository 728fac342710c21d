pub mod HeldLemmas
pub mod WaitLemmas
pub mod RowLemmas
pub mod StandLemmas
