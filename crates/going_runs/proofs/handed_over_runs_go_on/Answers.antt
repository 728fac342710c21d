use Rattle.going_runs.proofs.GoingLemmas.{handed_over_runs_go_on}
use Rattle.going_runs.proofs.handed_over_runs_go_on.Goals as goal

pub returns : goal.returns
returns g c = handed_over_runs_go_on g.C.ThreadCode.state g.C.ThreadCode.saved g.C.ThreadCode.code
