use Rattle.first_law.proofs.grounded_monitors.RunLemmas.{free_runs_fit_objects}
use Rattle.first_law.proofs.grounded_monitors.free_runs_fit_objects.Goals as goal

pub returns : goal.returns
returns g c = free_runs_fit_objects g.C.ThreadCode.code
