use Rattle.section_laws.proofs.open_sections.RunLemmas.{words_say_of_revoking}
use Rattle.section_laws.proofs.open_sections.words_say_of_revoking.Goals as goal

pub returns : goal.returns
returns g c = words_say_of_revoking g.C.ThreadCode.code
