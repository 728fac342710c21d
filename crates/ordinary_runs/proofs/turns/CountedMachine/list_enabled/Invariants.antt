use Rattle.schedules.specs.Laws.{AreThoseBelow}
use Rattle.ordinary_machine.specs.Machine.{machine_of}
use Rattle.ordinary_machine.specs.Advance.{MayAdvance}
use Rattle.ordinary_runs.proofs.turns.CountedMachine.list_enabled.Given as goal

abbrev pub invariant-loop-number : goal.invariant-loop-number
invariant-loop-number g l = AreThoseBelow (MayAdvance g.C.ThreadCode.code (machine_of g.C.ThreadCode.state l.self.machine)) l.number l.threads.items
