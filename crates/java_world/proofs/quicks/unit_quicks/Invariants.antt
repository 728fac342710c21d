use Rattle.std.proofs.Common.{◌≡◌, map, take}
use Rattle.java_world.specs.Quicks.{quicks_of_code}
use Rattle.java_world.proofs.quicks.unit_quicks.Given as goal

abbrev pub invariant-loop-code : goal.invariant-loop-code
invariant-loop-code l = l.quicks.items ≡ map quicks_of_code (take l.code-index l.code-items)
