use Rattle.written_words.proofs.KnownRunLemmas.{known_sections_are_others}
use Rattle.written_words.proofs.known_sections_are_others.Goals as goal

pub returns : goal.returns
returns g c = known_sections_are_others g.C.ThreadCode.code
