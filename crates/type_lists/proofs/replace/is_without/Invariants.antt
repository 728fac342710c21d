use Rattle.std.proofs.Common.{◌≡◌, ◌<◌, ℕ, false}
use Rattle.type_rules.specs.Assignable.{is_same_type}
use Rattle.type_lists.specs.Parts.{leaf_word}
use Rattle.type_lists.proofs.replace.is_without.Given as goal

abbrev pub invariant-loop-word : goal.invariant-loop-word
invariant-loop-word l = (j : ℕ) → j < l.word-index → is_same_type (leaf_word l.parts l.part j) l.old ≡ false
