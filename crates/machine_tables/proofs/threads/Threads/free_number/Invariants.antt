use Rattle.std.proofs.Common.{ℕ, ◌<◌}
use Rattle.machine_tables.specs.Tables.{seat_at, IsFreeSeat}
use Rattle.machine_tables.proofs.threads.Threads.free_number.Given as goal

abbrev pub invariant-loop-number : goal.invariant-loop-number
invariant-loop-number g l = (k : ℕ) → k < l.number → IsFreeSeat (seat_at l.self) k → ⊥
