use Rattle.std.proofs.Common.{◌≡◌, ℕ, ◌<◌, false}
use Rattle.ordinary_machine.specs.Machine.{machine_of}
use Rattle.ordinary_runs.specs.Turns.{is_live}
use Rattle.ordinary_runs.proofs.turns.CountedMachine.has_live.Given as goal

abbrev pub invariant-loop-number : goal.invariant-loop-number
invariant-loop-number g l = (t : ℕ) → t < l.number → is_live ((machine_of g.C.ThreadCode.state l.self.machine).now.threads t) ≡ false
