use Rattle.std.proofs.Common.{ℕ, ◌<◌}
use Rattle.op_core.specs.OrdinaryState.{IsWaitingFor}
use Rattle.machine_tables.specs.Tables.{seat_at, waiting_in}
use Rattle.machine_tables.proofs.threads.Threads.first_waiting.Given as goal

abbrev pub invariant-loop-number : goal.invariant-loop-number
invariant-loop-number g l = (k : ℕ) → k < l.number → IsWaitingFor l.reference (waiting_in (seat_at l.self) k) → ⊥
