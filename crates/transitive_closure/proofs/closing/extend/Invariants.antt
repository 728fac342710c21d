use Rattle.std.proofs.Common.{◌≡◌, ℕ, ◌<◌, ◌≤◌, ◌||◌, ◌&&◌, false, slice_index_or, length}
use Rattle.transitive_closure.specs.Relation.{relates, row_of}
use Rattle.transitive_closure.proofs.closing.extend.Given as goal

abbrev pub invariant-loop-row : goal.invariant-loop-row
invariant-loop-row l = record {
  widths : (a : ℕ) → a < length l.rows → length (row_of l.rows a) ≡ length l.through;
  done : (a b : ℕ) → a < l.row-index → relates l.rows a b ≡ (relates l.fn.rows a b || (relates l.fn.rows a l.middle && slice_index_or l.through b false));
  rest : (a b : ℕ) → l.row-index ≤ a → relates l.rows a b ≡ relates l.fn.rows a b;
}
