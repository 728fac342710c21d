use Rattle.std.proofs.Common.{take}
use Rattle.ordinary_machine.specs.Machine.{machine_of}
use Rattle.ordinary_machine.specs.Step.{Replays}
use Rattle.ordinary_machine.proofs.ordinary.Ordinary.replayed.Given as goal

abbrev pub invariant-loop-place : goal.invariant-loop-place
invariant-loop-place g l = Replays g.C.ThreadCode.code (machine_of g.C.ThreadCode.state l.fn.self) (take l.place l.events) (machine_of g.C.ThreadCode.state l.machine)
