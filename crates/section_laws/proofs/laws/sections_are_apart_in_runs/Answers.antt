use Rattle.section_laws.proofs.InRunLemmas.{apart_in_runs}
use Rattle.section_laws.proofs.laws.sections_are_apart_in_runs.Goals as goal

pub returns : goal.returns
returns g c = apart_in_runs g.C.ThreadCode.code
