use Rattle.section_laws.proofs.ActLemmas.{runs_have_acts}
use Rattle.section_laws.proofs.laws.runs_have_acts.Goals as goal

pub returns : goal.returns
returns g c = runs_have_acts g.C.ThreadCode.code
