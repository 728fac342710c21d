use Rattle.section_laws.proofs.run_layout.RunLemmas.{objects_stay}
use Rattle.section_laws.proofs.run_layout.objects_stay.Goals as goal

pub returns : goal.returns
returns g c = objects_stay g.C.ThreadCode.code
