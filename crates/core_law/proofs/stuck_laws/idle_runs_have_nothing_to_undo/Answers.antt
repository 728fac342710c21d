use Rattle.core_law.proofs.RestLemmas.{idle_runs_have_nothing_to_undo}
use Rattle.core_law.proofs.stuck_laws.idle_runs_have_nothing_to_undo.Goals as goal

pub returns : goal.returns
returns g c = idle_runs_have_nothing_to_undo g.C.ThreadCode.code
