use Rattle.std.proofs.Common.{◌<◌, ℕ, slice_index_or}
use Rattle.type_rules.specs.declared.types.VerificationType.TheVariants.{Top}
use Rattle.type_lists.specs.Marks.{word_mark, HasBits}
use Rattle.type_lists.proofs.marks.mark_of_words.Given as goal

abbrev pub invariant-loop-place : goal.invariant-loop-place
invariant-loop-place l = (j : ℕ) → j < l.place → HasBits l.mark (word_mark (slice_index_or l.words j Top))
