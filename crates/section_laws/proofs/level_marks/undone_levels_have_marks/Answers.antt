use Rattle.section_laws.proofs.level_marks.RunLemmas.{undone_levels_have_marks}
use Rattle.section_laws.proofs.level_marks.undone_levels_have_marks.Goals as goal

pub returns : goal.returns
returns g c = undone_levels_have_marks g.C.ThreadCode.code
