use Rattle.section_laws.proofs.own_sections.MoveLemmas.{own_words_are_known}
use Rattle.section_laws.proofs.own_sections.own_words_are_known.Goals as goal

pub returns : goal.returns
returns g c = own_words_are_known g.C.ThreadCode.code
