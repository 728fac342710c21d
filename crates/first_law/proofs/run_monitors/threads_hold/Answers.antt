use Rattle.first_law.proofs.run_monitors.RunLemmas.{threads_hold}
use Rattle.first_law.proofs.run_monitors.threads_hold.Goals as goal

pub returns : goal.returns
returns g c = threads_hold g.C.ThreadCode.code
