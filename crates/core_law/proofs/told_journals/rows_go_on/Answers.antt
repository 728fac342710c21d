use Rattle.core_law.proofs.told_journals.SizeLemmas.{rows_go_on}
use Rattle.core_law.proofs.told_journals.rows_go_on.Goals as goal

pub returns : goal.returns
returns g c = rows_go_on g.C.ThreadCode.State
