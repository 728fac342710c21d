use Rattle.std.proofs.Common.{◌≡◌, map}
use Rattle.std.specs.List.{range_with_len}
use Rattle.java_rows.specs.Units.{literal_units}
use Rattle.java_world.proofs.literals.make_literals.Given as goal

abbrev pub invariant-loop-string : goal.invariant-loop-string
invariant-loop-string l = l.literals.items ≡ map (literal_units l.world) (range_with_len 0 l.string)
