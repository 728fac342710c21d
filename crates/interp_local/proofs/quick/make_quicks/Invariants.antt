use Rattle.std.proofs.Common.{◌≡◌, take}
use Rattle.interp_local.specs.Quick.{quicks_of}
use Rattle.interp_local.proofs.quick.make_quicks.Given as goal

abbrev pub invariant-loop-instruction : goal.invariant-loop-instruction
invariant-loop-instruction l = l.quicks.items ≡ quicks_of (take l.instruction-index l.steps)
