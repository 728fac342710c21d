use Rattle.std.proofs.Common.{◌≡◌, ◌∷◌, [], map, take}
use Rattle.builtin_world.specs.BuiltinClass.{shown_class}
use Rattle.link_rules.specs.Classes.{library_method}
use Rattle.link_implementations.specs.Implementations.{abstract_candidates}
use Rattle.link_implementations.proofs.candidates.builtin_table.Given as goal

abbrev pub invariant-loop-class : goal.invariant-loop-class
invariant-loop-class l = l.table.items ≡ [] ∷ map (λ b. abstract_candidates l.lookup (map library_method (shown_class b).methods)) (take l.class-index l.class-items)
