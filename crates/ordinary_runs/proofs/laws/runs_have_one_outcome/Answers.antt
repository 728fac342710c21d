use Rattle.ordinary_runs.proofs.LawLemmas.{one_outcome}
use Rattle.ordinary_runs.proofs.laws.runs_have_one_outcome.Goals as goal

pub returns : goal.returns
returns g c = one_outcome g.C.ThreadCode.code
