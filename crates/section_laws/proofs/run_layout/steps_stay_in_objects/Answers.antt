use Rattle.section_laws.proofs.run_layout.RunLemmas.{steps_stay}
use Rattle.section_laws.proofs.run_layout.steps_stay_in_objects.Goals as goal

pub returns : goal.returns
returns g c = steps_stay g.C.ThreadCode.code
