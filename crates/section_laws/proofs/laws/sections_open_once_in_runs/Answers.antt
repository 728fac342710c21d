use Rattle.section_laws.proofs.InRunLemmas.{open_once_in_runs}
use Rattle.section_laws.proofs.laws.sections_open_once_in_runs.Goals as goal

pub returns : goal.returns
returns g c = open_once_in_runs g.C.ThreadCode.code
