use Rattle.std.proofs.Common.{◌≡◌, ◌<◌, ℕ, true, length, slice_index_or}
use Rattle.type_rules.specs.declared.types.VerificationType.TheVariants.{Top}
use Rattle.type_rules.specs.Assignable.{is_assignable}
use Rattle.type_lists.proofs.compare.are_leaves_assignable.Given as goal

abbrev pub invariant-loop-place : goal.invariant-loop-place
invariant-loop-place g l = record {
  lows : length l.lows ≡ 8;
  highs : length l.highs ≡ 8;
  so_far : (j : ℕ) → j < l.place → is_assignable (g.H.ClassHierarchy.hierarchy l.hierarchy) (slice_index_or l.lows j Top) (slice_index_or l.highs j Top) ≡ true;
}
