use Rattle.section_laws.proofs.level_marks.RunLemmas.{marks_fall}
use Rattle.section_laws.proofs.level_marks.marks_fall.Goals as goal

pub returns : goal.returns
returns g c = marks_fall g.C.ThreadCode.code
