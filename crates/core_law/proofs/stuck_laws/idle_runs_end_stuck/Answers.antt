use Rattle.core_law.proofs.EndLemmas.{idle_runs_end_stuck}
use Rattle.core_law.proofs.stuck_laws.idle_runs_end_stuck.Goals as goal

pub returns : goal.returns
returns g c = idle_runs_end_stuck g.C.ThreadCode.code
