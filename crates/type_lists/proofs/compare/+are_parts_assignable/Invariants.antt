use Rattle.std.proofs.Common.{◌-◌, ◌<◌, ℕ, length}
use Rattle.type_lists.specs.Parts.{child_at}
use Rattle.type_lists.specs.Compared.{AreAssignable, KnowsRightly}
use Rattle.type_lists.proofs.compare.+are_parts_assignable.Given as goal

abbrev pub decreases-are_parts_assignable : goal.decreases-are_parts_assignable
decreases-are_parts_assignable g l = l.height

abbrev pub invariant-loop-digit : goal.invariant-loop-digit
invariant-loop-digit g l = record {
  known : KnowsRightly (g.H.ClassHierarchy.hierarchy l.hierarchy) l.parts (length l.parts) l.known;
  below : (j : ℕ) → j < l.digit → AreAssignable (g.H.ClassHierarchy.hierarchy l.hierarchy) l.parts (l.height - 1) (child_at l.parts l.low j) (child_at l.parts l.high j);
}
