use Rattle.schedules.proofs.RunLemmas.{go_on}
use Rattle.schedules.proofs.laws.runs_go_on.Goals as goal

pub returns : goal.returns
returns g c = go_on g.T.GivesTurns.State g.T.GivesTurns.system
