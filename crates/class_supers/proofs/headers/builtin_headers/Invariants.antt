use Rattle.std.proofs.Common.{◌≡◌, map, take}
use Rattle.builtin_world.specs.BuiltinClass.{shown_class}
use Rattle.class_supers.specs.Headers.{header_of_row}
use Rattle.class_supers.proofs.headers.builtin_headers.Given as goal

abbrev pub invariant-loop-class : goal.invariant-loop-class
invariant-loop-class l = l.headers.items ≡ map (λ b. header_of_row (shown_class b)) (take l.class-index l.class-items)
