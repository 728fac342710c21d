use Rattle.transitive_closure.proofs.Orders.{ordered}
use Rattle.transitive_closure.proofs.ordering.order.Goals as goal

pub returns : goal.returns
returns c = ordered _ _ _ _ _ _ c.requires.table c.requires.strict c.in_ok-ranks.ensures c.sort.ensures.same c.sort.ensures.sorted c.deref.ensures.value c.in_ok-numbers.ensures
