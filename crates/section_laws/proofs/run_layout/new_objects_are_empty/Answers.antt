use Rattle.section_laws.proofs.run_layout.RunLemmas.{new_objects}
use Rattle.section_laws.proofs.run_layout.new_objects_are_empty.Goals as goal

pub returns : goal.returns
returns g c = new_objects g.C.ThreadCode.code
