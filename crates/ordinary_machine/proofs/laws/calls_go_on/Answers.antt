use Rattle.ordinary_machine.proofs.JoinLemmas.{go_on}
use Rattle.ordinary_machine.proofs.laws.calls_go_on.Goals as goal

pub returns : goal.returns
returns g c = go_on g.C.ThreadCode.code
