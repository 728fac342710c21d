use Rattle.standing_runs.proofs.Standing.{orderly_stuck}
use Rattle.standing_runs.proofs.laws.orderly_runs_end_stuck.Goals as goal

pub returns : goal.returns
returns g c = orderly_stuck g.C.ThreadCode.code
