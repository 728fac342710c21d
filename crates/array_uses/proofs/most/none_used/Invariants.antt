use Rattle.std.proofs.Common.{◌≡◌, replicate}
use Rattle.array_uses.proofs.most.none_used.Given as goal

abbrev pub invariant-loop : goal.invariant-loop
invariant-loop l = l.most.items ≡ replicate l.counter 0
