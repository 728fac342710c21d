use Rattle.core_law.proofs.UndoLemmas.{levels_to_undo_are_told}
use Rattle.core_law.proofs.text_laws.levels_to_undo_are_told.Goals as goal

pub returns : goal.returns
returns g c = levels_to_undo_are_told g.C.ThreadCode.code
