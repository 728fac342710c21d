use Rattle.section_laws.proofs.level_marks.RunLemmas.{marks_are_there}
use Rattle.section_laws.proofs.level_marks.marks_are_there.Goals as goal

pub returns : goal.returns
returns g c = marks_are_there g.C.ThreadCode.code
