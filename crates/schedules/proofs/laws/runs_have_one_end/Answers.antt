use Rattle.schedules.proofs.RunLemmas.{one_end}
use Rattle.schedules.proofs.laws.runs_have_one_end.Goals as goal

pub returns : goal.returns
returns g c = one_end g.T.GivesTurns.State g.T.GivesTurns.system
