use Rattle.code_decode.proofs.HandlerLaws.{AreHandlersTo}
use Rattle.code_decode.proofs.handlers.handlers.Given as goal

abbrev pub invariant-loop-number : goal.invariant-loop-number
invariant-loop-number l = AreHandlersTo l.pool l.steps l.size l.table l.number l.handlers
