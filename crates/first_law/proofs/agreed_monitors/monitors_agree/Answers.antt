use Rattle.first_law.proofs.agreed_monitors.RunLemmas.{monitors_agree}
use Rattle.first_law.proofs.agreed_monitors.monitors_agree.Goals as goal

pub returns : goal.returns
returns g c = monitors_agree g.C.ThreadCode.code
