use Rattle.ready_runs.proofs.ReadyLemmas.{steps_are_allowed}
use Rattle.ready_runs.proofs.steps_are_allowed.Goals as goal

pub returns : goal.returns
returns g c = steps_are_allowed g.C.ThreadCode.code
