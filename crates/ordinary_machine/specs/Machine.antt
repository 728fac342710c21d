-- What the machine holds: the ordinary state, and what `advance` needs besides.
use Rattle.machine_state.specs.Machine.{machine_in}
pub use Rattle.machine_state.specs.Machine.{Machine, silents_after, taken_after, shared_after, moved, with_thread_at, with_new_object, with_word_at, with_monitor_at, with_started_at, with_waiting_at, with_class_at, with_line, Wants, Awaits, RunsTo, RunsSilently, HasBegun, woken_of}
use Rattle.ordinary_machine.specs.declared.ordinary.Ordinary.{Ordinary}

abbrev pub machine_of : {C S : Type 0} → (C → S) → Ordinary C → Machine S
machine_of state m = machine_in state m.state
