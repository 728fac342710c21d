use Rattle.std.proofs.Common.{◌≡◌, ℕ, List, ◌+◌, take, drop}
use Rattle.frame_snapshot.proofs.row.move_down.Given as goal

-- after `count` words
pub record IsMoved (old now : List ℕ) (from to count : ℕ) : Type 0 where
  pub before : take to now ≡ take to old
  pub moved : take count (drop to now) ≡ take count (drop from old)
  pub behind : drop (to + count) now ≡ drop (to + count) old

abbrev pub invariant-loop-place : goal.invariant-loop-place
invariant-loop-place l = IsMoved l.fn.words l.words l.from l.to l.place
