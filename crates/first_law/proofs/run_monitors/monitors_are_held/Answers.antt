use Rattle.first_law.proofs.run_monitors.RunLemmas.{monitors_are_held}
use Rattle.first_law.proofs.run_monitors.monitors_are_held.Goals as goal

pub returns : goal.returns
returns g c = monitors_are_held g.C.ThreadCode.code
