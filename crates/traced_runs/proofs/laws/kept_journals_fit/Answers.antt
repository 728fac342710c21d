use Rattle.traced_runs.proofs.FitLemmas.{kept_fit}
use Rattle.traced_runs.proofs.laws.kept_journals_fit.Goals as goal

pub returns : goal.returns
returns g c = kept_fit g.C.ThreadCode.code
