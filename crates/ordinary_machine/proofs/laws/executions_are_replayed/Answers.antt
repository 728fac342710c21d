use Rattle.ordinary_machine.proofs.ReplayLemmas.{executions_replayed}
use Rattle.ordinary_machine.proofs.laws.executions_are_replayed.Goals as goal

pub returns : goal.returns
returns g c = executions_replayed g.C.ThreadCode.code
