use Rattle.ordinary_machine.proofs.SilentLemmas.{runs_advance}
use Rattle.ordinary_machine.proofs.laws.runs_are_advances.Goals as goal

pub returns : goal.returns
returns g c = runs_advance g.C.ThreadCode.code
