use Rattle.std.proofs.Common.{◌≡◌, ℕ, ◌<◌, Some}
use Rattle.op_core.specs.OrdinaryState.{ended}
use Rattle.ordinary_machine.specs.Machine.{machine_of}
use Rattle.ordinary_runs.proofs.turns.CountedMachine.has_died.Given as goal

abbrev pub invariant-loop-number : goal.invariant-loop-number
invariant-loop-number g l = (t c : ℕ) → t < l.number → (machine_of g.C.ThreadCode.state l.self.machine).now.threads t ≡ ended (Some c) → ⊥
