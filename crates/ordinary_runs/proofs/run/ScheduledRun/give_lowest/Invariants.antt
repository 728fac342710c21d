use Rattle.std.proofs.Common.{◌≡◌}
use Rattle.ordinary_machine.specs.Machine.{machine_of}
use Rattle.ordinary_runs.specs.ScheduledRun.{run_of}
use Rattle.ordinary_runs.proofs.LowestLemmas.{NoneBelow}
use Rattle.ordinary_runs.proofs.run.ScheduledRun.give_lowest.Given as goal

abbrev pub invariant-loop-number : goal.invariant-loop-number
invariant-loop-number g l = record {
  limits : l.self.turns.limits ≡ l.initial.self.turns.limits;
  same : run_of g.C.ThreadCode.state l.self ≡ run_of g.C.ThreadCode.state l.initial.self;
  none : NoneBelow g.C.ThreadCode.code (machine_of g.C.ThreadCode.state l.self.turns.machine) l.number;
}
