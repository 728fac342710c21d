use Rattle.core_law.proofs.StuckLemmas.{idle_cores_are_stuck}
use Rattle.core_law.proofs.stuck_laws.idle_cores_are_stuck.Goals as goal

pub returns : goal.returns
returns g c = idle_cores_are_stuck g.C.ThreadCode.code
