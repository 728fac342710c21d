use Rattle.std.proofs.Common.{◌≡◌, ℕ, ◌+◌, length, take}
use Rattle.transitive_closure.specs.Relation.{relates}
use Rattle.class_supers.specs.Above.{names_at}
use Rattle.class_supers.proofs.above.named_classes.Given as goal

abbrev pub invariant-loop-i : goal.invariant-loop-i
invariant-loop-i l = record {
  size : length l.relation ≡ length l.headers + 1;
  related : (c d : ℕ) → relates l.relation c d ≡ names_at (take l.i l.headers) c d;
}
