use Rattle.first_law.proofs.GroundedLemmas.{grounded_runs_are_seen}
use Rattle.first_law.proofs.grounded_runs_are_seen.Goals as goal

pub returns : goal.returns
returns g c = grounded_runs_are_seen g.C.ThreadCode.code
