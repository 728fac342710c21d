use Rattle.section_laws.proofs.CoreRunLemmas.{begin_with_runs}
use Rattle.section_laws.proofs.laws.runs_begin_with_runs.Goals as goal

pub returns : goal.returns
returns g c = begin_with_runs g.C.ThreadCode.code
