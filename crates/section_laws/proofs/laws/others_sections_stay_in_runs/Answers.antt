use Rattle.section_laws.proofs.InRunLemmas.{others_stay_in_runs}
use Rattle.section_laws.proofs.laws.others_sections_stay_in_runs.Goals as goal

pub returns : goal.returns
returns g c = others_stay_in_runs g.C.ThreadCode.code
