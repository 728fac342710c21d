use Rattle.std.proofs.Common.{◌≡◌, ℕ, ◌<◌, ◌≤◌, ◌||◌, false, slice_index_or}
use Rattle.transitive_closure.proofs.row.join.Given as goal

abbrev pub invariant-loop-i : goal.invariant-loop-i
invariant-loop-i l = record {
  done : (k : ℕ) → k < l.i → slice_index_or l.marks k false ≡ (slice_index_or l.fn.marks k false || slice_index_or l.others k false);
  rest : (k : ℕ) → l.i ≤ k → slice_index_or l.marks k false ≡ slice_index_or l.fn.marks k false;
}
