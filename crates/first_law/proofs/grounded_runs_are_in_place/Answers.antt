use Rattle.first_law.proofs.GroundedLemmas.{grounded_runs_are_in_place}
use Rattle.first_law.proofs.grounded_runs_are_in_place.Goals as goal

pub returns : goal.returns
returns g c = grounded_runs_are_in_place g.C.ThreadCode.code
