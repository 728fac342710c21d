use Rattle.std.proofs.Common.{◌≡◌, ◌-◌, ◌<◌, ℕ, false}
use Rattle.type_rules.specs.Assignable.{is_same_type}
use Rattle.type_lists.specs.Parts.{child_at, room, word_of}
use Rattle.type_lists.proofs.find.+has_in.Given as goal

abbrev pub decreases-has_in : goal.decreases-has_in
decreases-has_in l = l.height

abbrev pub invariant-loop-digit : goal.invariant-loop-digit
invariant-loop-digit l =
    (j : ℕ) → j < l.digit → (n : ℕ) → n < room (l.height - 1) → is_same_type l.word (word_of l.parts (l.height - 1) (child_at l.parts l.part j) n) ≡ false
