use Rattle.core_law.proofs.TextLemmas.{texts_are_those_left}
use Rattle.core_law.proofs.text_laws.texts_are_those_left.Goals as goal

pub returns : goal.returns
returns g c = texts_are_those_left g.C.ThreadCode.code
