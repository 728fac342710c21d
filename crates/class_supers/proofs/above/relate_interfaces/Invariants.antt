use Rattle.std.proofs.Common.{◌≡◌, ℕ, ◌||◌, ◌&&◌, ◌==◌, length, take}
use Rattle.std.specs.List.{list_any}
use Rattle.transitive_closure.specs.Relation.{relates}
use Rattle.class_supers.specs.Above.{is_named}
use Rattle.class_supers.proofs.above.relate_interfaces.Given as goal

abbrev pub invariant-loop-interface : goal.invariant-loop-interface
invariant-loop-interface l = record {
  size : length l.relation ≡ length l.fn.relation;
  related : (c d : ℕ) → relates l.relation c d ≡ (relates l.fn.relation c d || (c == l.class && list_any (λ n. is_named n d) (take l.interface-index l.interfaces)));
}
