use Rattle.core_law.proofs.TextLemmas.{words_are_those_left}
use Rattle.core_law.proofs.text_laws.words_are_those_left.Goals as goal

pub returns : goal.returns
returns g c = words_are_those_left g.C.ThreadCode.code
