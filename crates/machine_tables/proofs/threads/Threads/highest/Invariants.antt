use Rattle.std.proofs.Common.{ℕ, ◌≤◌, ◌+◌, IsNone}
use Rattle.machine_tables.specs.Tables.{seat_at}
use Rattle.machine_tables.proofs.threads.Threads.highest.Given as goal

abbrev pub invariant-loop-above : goal.invariant-loop-above
invariant-loop-above g l = (k : ℕ) → l.end ≤ k + l.above → IsNone (seat_at l.self k)
