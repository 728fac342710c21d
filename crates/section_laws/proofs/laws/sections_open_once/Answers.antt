use Rattle.section_laws.proofs.SectionLemmas.{sections_open_once}
use Rattle.section_laws.proofs.laws.sections_open_once.Goals as goal

pub returns : goal.returns
returns g c = sections_open_once g.C.ThreadCode.code
