use Rattle.first_law.proofs.grounded_monitors.RunLemmas.{free_runs_hold_monitors}
use Rattle.first_law.proofs.grounded_monitors.free_runs_hold_monitors.Goals as goal

pub returns : goal.returns
returns g c = free_runs_hold_monitors g.C.ThreadCode.code
