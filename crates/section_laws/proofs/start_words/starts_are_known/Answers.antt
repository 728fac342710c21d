use Rattle.section_laws.proofs.start_words.RunLemmas.{starts_are_known}
use Rattle.section_laws.proofs.start_words.starts_are_known.Goals as goal

pub returns : goal.returns
returns g c = starts_are_known g.C.ThreadCode.code
