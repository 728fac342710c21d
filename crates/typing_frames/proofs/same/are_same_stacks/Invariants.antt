use Rattle.std.proofs.Common.{◌≡◌, ◌<◌, ℕ, true}
use Rattle.type_rules.specs.Assignable.{is_same_type}
use Rattle.type_lists.specs.Store.{word_at}
use Rattle.typing_frames.proofs.same.are_same_stacks.Given as goal

abbrev pub invariant-loop-at : goal.invariant-loop-at
invariant-loop-at l = (n : ℕ) → n < l.at → is_same_type (word_at l.stores.stacks l.a.stack n) (word_at l.stores.stacks l.b.stack n) ≡ true
