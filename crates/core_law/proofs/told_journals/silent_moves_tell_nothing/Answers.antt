use Rattle.core_law.proofs.told_journals.StepLemmas.{silent_moves_tell_nothing}
use Rattle.core_law.proofs.told_journals.silent_moves_tell_nothing.Goals as goal

pub returns : goal.returns
returns g c = silent_moves_tell_nothing g.C.ThreadCode.code
