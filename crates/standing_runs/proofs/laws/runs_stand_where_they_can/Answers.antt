use Rattle.standing_runs.proofs.Standing.{runs_stand}
use Rattle.standing_runs.proofs.laws.runs_stand_where_they_can.Goals as goal

pub returns : goal.returns
returns g c = runs_stand g.C.ThreadCode.code
