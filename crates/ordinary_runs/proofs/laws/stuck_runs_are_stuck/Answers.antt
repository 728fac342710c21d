use Rattle.ordinary_runs.proofs.LawLemmas.{stuck}
use Rattle.ordinary_runs.proofs.laws.stuck_runs_are_stuck.Goals as goal

pub returns : goal.returns
returns g c = stuck g.C.ThreadCode.code
