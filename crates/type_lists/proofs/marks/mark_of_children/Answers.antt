use Rattle.std.proofs.Common.{ℕ, ◌<◌, ◌+◌, slice_index, bit_or, subst, sym}
use Rattle.type_lists.specs.Marks.{mark_at, HasBits}
use Rattle.type_lists.proofs.MarkLaws.{more_bits}
use Rattle.type_lists.proofs.marks.mark_of_children.Goals as goal

pub loop-digit-preserved : goal.loop-digit-preserved
loop-digit-preserved c =
    let f = λ (j : ℕ). mark_at c.args.marks.now (slice_index c.args.children.now j) in
    subst (λ m. (j : ℕ) → j < c.loop-digit.digit + 1 → HasBits (bit_or c.loop-digit.mark m) (f j)) (sym c.mark_of_part-mark.ensures)
    (more_bits f c.loop-digit.mark c.loop-digit.digit c.loop-digit.invariant)
