use Rattle.std.proofs.Common.{◌≡◌, ◌-◌, ◌≤◌, map, length}
use Rattle.std.specs.List.{range_with_len}
use Rattle.transitive_closure.specs.Rank.{rank_of}
use Rattle.transitive_closure.proofs.ordering.ranks.Given as goal

abbrev pub invariant-loop-number : goal.invariant-loop-number
invariant-loop-number l = record {
  some : l.number - l.first ≤ length l.rows - l.first;
  ranked : l.ranks.items ≡ map (rank_of l.rows) (range_with_len l.first (l.number - l.first));
}
