use Rattle.first_law.proofs.grounded_monitors.RunLemmas.{free_runs_fit}
use Rattle.first_law.proofs.grounded_monitors.free_runs_fit.Goals as goal

pub returns : goal.returns
returns g c = free_runs_fit g.C.ThreadCode.code
