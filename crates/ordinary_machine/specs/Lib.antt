pub mod Machine
pub mod Step
pub use Rattle.machine_state.specs.Start
pub mod Advance
pub mod Laws
