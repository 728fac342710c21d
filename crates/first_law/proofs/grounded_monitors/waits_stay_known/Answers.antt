use Rattle.first_law.proofs.grounded_monitors.RunLemmas.{waits_stay_known}
use Rattle.first_law.proofs.grounded_monitors.waits_stay_known.Goals as goal

pub returns : goal.returns
returns g c = waits_stay_known g.C.ThreadCode.code
