use Rattle.first_law.proofs.run_monitors.RunLemmas.{undoings_fit}
use Rattle.first_law.proofs.run_monitors.undoings_fit.Goals as goal

pub returns : goal.returns
returns g c = undoings_fit g.C.ThreadCode.code
