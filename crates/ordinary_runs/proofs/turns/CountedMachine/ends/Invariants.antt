use Rattle.ordinary_machine.specs.Machine.{machine_of}
use Rattle.ordinary_runs.proofs.EndLemmas.{AreEndsBelow}
use Rattle.ordinary_runs.proofs.turns.CountedMachine.ends.Given as goal

abbrev pub invariant-loop-number : goal.invariant-loop-number
invariant-loop-number g l = AreEndsBelow (machine_of g.C.ThreadCode.state l.self.machine).now l.number l.ends
