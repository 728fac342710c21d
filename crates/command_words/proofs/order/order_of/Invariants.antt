use Rattle.std.proofs.Common.{length}
use Rattle.command_words.proofs.OrderLaws.{IsReadTo}
use Rattle.command_words.proofs.order.order_of.Given as goal

abbrev pub invariant-loop-item : goal.invariant-loop-item
invariant-loop-item l = IsReadTo l.text l.items l.rest

abbrev pub decreases-loop-item : goal.decreases-loop-item
decreases-loop-item l = length l.rest
