use Rattle.jr_ports.proofs.Gained.{OnErr-any, GainsPart-none}
use Rattle.jr_ports.proofs.memory.sink.MemSinkSink.put.Goals as goal

pub returns-in_err-push-clause-err : goal.returns-in_err-push-clause-err
returns-in_err-push-clause-err c = OnErr-any _ _ (GainsPart-none _ _ _ c.in_err-push.ensures.err)
