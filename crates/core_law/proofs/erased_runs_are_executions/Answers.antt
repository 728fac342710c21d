use Rattle.core_law.proofs.ErasureLemmas.{erased_runs_are_executions}
use Rattle.core_law.proofs.erased_runs_are_executions.Goals as goal

pub returns : goal.returns
returns g c = erased_runs_are_executions g.C.ThreadCode.code
