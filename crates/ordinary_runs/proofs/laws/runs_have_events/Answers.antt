use Rattle.ordinary_runs.proofs.KeptLemmas.{runs_with_events}
use Rattle.ordinary_runs.proofs.laws.runs_have_events.Goals as goal

pub returns : goal.returns
returns g c = runs_with_events g.C.ThreadCode.code
