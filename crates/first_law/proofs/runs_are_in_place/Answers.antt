use Rattle.first_law.proofs.ListLemmas.{runs_are_in_place}
use Rattle.first_law.proofs.runs_are_in_place.Goals as goal

pub returns : goal.returns
returns g c = runs_are_in_place g.C.ThreadCode.code
