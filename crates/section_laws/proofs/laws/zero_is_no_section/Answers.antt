use Rattle.section_laws.proofs.SectionLemmas.{zero_no_section}
use Rattle.section_laws.proofs.laws.zero_is_no_section.Goals as goal

pub returns : goal.returns
returns g c = zero_no_section g.C.ThreadCode.code
