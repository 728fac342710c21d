use Rattle.ordinary_runs.proofs.LawLemmas.{executions}
use Rattle.ordinary_runs.proofs.laws.runs_are_executions.Goals as goal

pub returns : goal.returns
returns g c = executions g.C.ThreadCode.code
