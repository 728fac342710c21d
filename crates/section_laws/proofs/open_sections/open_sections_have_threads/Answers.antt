use Rattle.section_laws.proofs.open_sections.RunLemmas.{open_sections_have_threads}
use Rattle.section_laws.proofs.open_sections.open_sections_have_threads.Goals as goal

pub returns : goal.returns
returns g c = open_sections_have_threads g.C.ThreadCode.code
