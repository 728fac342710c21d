use Rattle.first_law.proofs.settled_monitors.RunLemmas.{monitors_settle}
use Rattle.first_law.proofs.settled_monitors.monitors_settle.Goals as goal

pub returns : goal.returns
returns g c = monitors_settle g.C.ThreadCode.code
