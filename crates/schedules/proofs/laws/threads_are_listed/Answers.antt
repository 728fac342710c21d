use Rattle.schedules.proofs.ListLemmas.{threads_listed}
use Rattle.schedules.proofs.laws.threads_are_listed.Goals as goal

pub returns : goal.returns
returns g c = threads_listed g.T.GivesTurns.State g.T.GivesTurns.system
