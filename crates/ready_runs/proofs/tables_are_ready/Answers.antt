use Rattle.ready_runs.proofs.ReadyLemmas.{tables_are_ready}
use Rattle.ready_runs.proofs.tables_are_ready.Goals as goal

pub returns : goal.returns
returns g c = tables_are_ready g.C.ThreadCode.code
