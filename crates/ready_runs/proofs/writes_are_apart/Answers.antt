use Rattle.ready_runs.proofs.ReadyLemmas.{writes_are_apart}
use Rattle.ready_runs.proofs.writes_are_apart.Goals as goal

pub returns : goal.returns
returns g c = writes_are_apart g.C.ThreadCode.code
