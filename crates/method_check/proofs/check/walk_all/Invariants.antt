use Rattle.method_check.proofs.Walked.{Walking}
use Rattle.method_check.proofs.check.walk_all.Given as goal

abbrev pub invariant-loop-number : goal.invariant-loop-number
invariant-loop-number g l = Walking (g.W.MethodWorld.environment l.world) (g.P.PoolOperands.operands l.pool) l.method l.walk l.number
