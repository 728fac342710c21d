use Rattle.ordinary_machine.proofs.ReplayLemmas.{replayed}
use Rattle.ordinary_machine.proofs.laws.replays_are_executions.Goals as goal

pub returns : goal.returns
returns g c = replayed g.C.ThreadCode.code
