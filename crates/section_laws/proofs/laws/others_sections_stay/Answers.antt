use Rattle.section_laws.proofs.SectionLemmas.{others_stay}
use Rattle.section_laws.proofs.laws.others_sections_stay.Goals as goal

pub returns : goal.returns
returns g c = others_stay g.C.ThreadCode.code
