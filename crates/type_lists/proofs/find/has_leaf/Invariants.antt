use Rattle.std.proofs.Common.{◌≡◌, ◌<◌, ℕ, false}
use Rattle.type_rules.specs.Assignable.{is_same_type}
use Rattle.type_lists.specs.Parts.{leaf_word}
use Rattle.type_lists.proofs.find.has_leaf.Given as goal

abbrev pub invariant-loop-found : goal.invariant-loop-found
invariant-loop-found l = (j : ℕ) → j < l.found-index → is_same_type l.word (leaf_word l.parts l.part j) ≡ false
