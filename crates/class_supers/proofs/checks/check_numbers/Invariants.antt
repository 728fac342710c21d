use Rattle.std.proofs.Common.{◌≡◌, ◌≢◌, ℕ, ◌<◌, Some, slice_get, get_or}
use Rattle.class_supers.proofs.checks.check_numbers.Given as goal

abbrev pub invariant-loop-i : goal.invariant-loop-i
invariant-loop-i l = (j at : ℕ) → j < l.i → slice_get l.indices j ≡ Some at → get_or l.numbers j 0 ≢ 0
