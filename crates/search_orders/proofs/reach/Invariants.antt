use Rattle.std.proofs.Common.{◌≡◌, ℕ, length, slice_index}
use Rattle.search_orders.proofs.reach.Given as goal

abbrev pub invariant-loop : goal.invariant-loop
invariant-loop l = record {
  ranks : (n : ℕ) → slice_index l.ranks.items n ≡ slice_index l.initial.ranks.items n;
  count : length l.ranks.items ≡ l.counter;
}
