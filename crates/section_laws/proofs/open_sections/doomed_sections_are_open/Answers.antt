use Rattle.section_laws.proofs.open_sections.RunLemmas.{doomed_sections_are_open}
use Rattle.section_laws.proofs.open_sections.doomed_sections_are_open.Goals as goal

pub returns : goal.returns
returns g c = doomed_sections_are_open g.C.ThreadCode.code
