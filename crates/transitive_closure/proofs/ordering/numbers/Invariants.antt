use Rattle.std.proofs.Common.{◌≡◌, map, take}
use Rattle.transitive_closure.proofs.ordering.numbers.Given as goal

abbrev pub invariant-loop-rank : goal.invariant-loop-rank
invariant-loop-rank l = l.numbers.items ≡ map (λ rank. rank.number) (take l.rank-index l.ranks)
