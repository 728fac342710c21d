use Rattle.first_law.proofs.grounded_monitors.RunLemmas.{free_runs_are_in_place}
use Rattle.first_law.proofs.grounded_monitors.free_runs_are_in_place.Goals as goal

pub returns : goal.returns
returns g c = free_runs_are_in_place g.C.ThreadCode.code
