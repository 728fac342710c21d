use Rattle.opening_cores.proofs.OpeningLemmas.{openings_begin_runs}
use Rattle.opening_cores.proofs.openings_begin_runs.Goals as goal

pub returns : goal.returns
returns g c = openings_begin_runs g.C.ThreadCode.code
