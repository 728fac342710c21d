use Rattle.std.proofs.Common.{◌<◌, ℕ, slice_index}
use Rattle.type_lists.specs.Marks.{mark_at, HasBits}
use Rattle.type_lists.proofs.marks.mark_of_children.Given as goal

abbrev pub invariant-loop-digit : goal.invariant-loop-digit
invariant-loop-digit l = (j : ℕ) → j < l.digit → HasBits l.mark (mark_at l.marks (slice_index l.children j))
