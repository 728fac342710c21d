use Rattle.handler_frames.proofs.MethodLaws.{Checking}
use Rattle.handler_frames.proofs.ordered.check_in_order.Given as goal

abbrev pub invariant-loop-handler : goal.invariant-loop-handler
invariant-loop-handler g l = Checking (g.H.ClassHierarchy.hierarchy l.hierarchy) (g.P.PoolOperands.operands l.pool) l.fn.stores l.stores l.method l.step l.frame l.handler-index
