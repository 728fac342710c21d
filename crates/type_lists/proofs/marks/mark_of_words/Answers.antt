use Rattle.std.proofs.Common.{ℕ, ◌<◌, ◌+◌, slice_index_or, bit_or, subst, sym}
use Rattle.type_rules.specs.declared.types.VerificationType.TheVariants.{Top}
use Rattle.type_lists.specs.Marks.{word_mark, HasBits}
use Rattle.type_lists.proofs.MarkLaws.{more_bits}
use Rattle.type_lists.proofs.marks.mark_of_words.Goals as goal

pub loop-place-preserved : goal.loop-place-preserved
loop-place-preserved c =
    let f = λ (j : ℕ). word_mark (slice_index_or c.args.words.now j Top) in
    subst (λ m. (j : ℕ) → j < c.loop-place.place + 1 → HasBits (bit_or c.loop-place.mark m) (f j)) (sym c.mark_of_word-mark.ensures)
    (more_bits f c.loop-place.mark c.loop-place.place c.loop-place.invariant)
