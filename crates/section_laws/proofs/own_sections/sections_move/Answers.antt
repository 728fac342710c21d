use Rattle.section_laws.proofs.own_sections.MoveLemmas.{sections_move}
use Rattle.section_laws.proofs.own_sections.sections_move.Goals as goal

pub returns : goal.returns
returns g c = sections_move g.C.ThreadCode.code
