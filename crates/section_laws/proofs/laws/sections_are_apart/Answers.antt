use Rattle.section_laws.proofs.SectionLemmas.{sections_apart}
use Rattle.section_laws.proofs.laws.sections_are_apart.Goals as goal

pub returns : goal.returns
returns g c = sections_apart g.C.ThreadCode.code
