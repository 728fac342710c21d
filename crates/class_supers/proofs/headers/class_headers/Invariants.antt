use Rattle.std.proofs.Common.{◌≡◌, ◌++◌, map, take}
use Rattle.builtin_world.specs.BuiltinClass.{rows}
use Rattle.link_rules.specs.Classes.{class_of_unit}
use Rattle.class_supers.specs.Numbers.{number_named}
use Rattle.class_supers.specs.Headers.{header_of_row, header_by}
use Rattle.class_supers.proofs.headers.class_headers.Given as goal

abbrev pub invariant-loop-unit : goal.invariant-loop-unit
invariant-loop-unit l = l.headers.items ≡ map header_of_row rows ++ map (λ u. header_by (number_named l.numbers) (class_of_unit u)) (take l.unit-index l.units)
