use Rattle.ordinary_runs.proofs.KeptLemmas.{runs_fit}
use Rattle.ordinary_runs.proofs.laws.runs_fit_journals.Goals as goal

pub returns : goal.returns
returns g c = runs_fit g.C.ThreadCode.code
