use Rattle.core_law.proofs.told_journals.StepLemmas.{steps_tell_rows}
use Rattle.core_law.proofs.told_journals.steps_tell_rows.Goals as goal

pub returns : goal.returns
returns g c = steps_tell_rows g.C.ThreadCode.code
