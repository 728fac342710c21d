use Rattle.core_law.proofs.UndoLemmas.{words_to_put_back_are_told}
use Rattle.core_law.proofs.text_laws.words_to_put_back_are_told.Goals as goal

pub returns : goal.returns
returns g c = words_to_put_back_are_told g.C.ThreadCode.code
