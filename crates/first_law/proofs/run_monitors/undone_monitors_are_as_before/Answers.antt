use Rattle.first_law.proofs.run_monitors.RunLemmas.{undone_monitors_are_as_before}
use Rattle.first_law.proofs.run_monitors.undone_monitors_are_as_before.Goals as goal

pub returns : goal.returns
returns g c = undone_monitors_are_as_before g.C.ThreadCode.code
