use Rattle.std.proofs.Common.{◌≡◌, map, take}
use Rattle.java_world.specs.Quicks.{quicks_of_unit}
use Rattle.java_world.proofs.quicks.make_program_quicks.Given as goal

abbrev pub invariant-loop-unit : goal.invariant-loop-unit
invariant-loop-unit l = l.quicks.items ≡ map quicks_of_unit (take l.unit-index l.units)
