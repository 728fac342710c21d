use Rattle.ordinary_machine.proofs.RunLemmas.{executed}
use Rattle.ordinary_machine.proofs.laws.advances_are_executions.Goals as goal

pub returns : goal.returns
returns g c = executed g.C.ThreadCode.code
