use Rattle.going_runs.proofs.PlaceLemmas.{whole_runs_have_places}
use Rattle.going_runs.proofs.whole_runs_have_places.Goals as goal

pub returns : goal.returns
returns g c = whole_runs_have_places g.C.ThreadCode.state g.C.ThreadCode.saved g.C.ThreadCode.code
