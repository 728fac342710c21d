use Rattle.core_law.proofs.told_journals.EndLemmas.{threads_tell_journals}
use Rattle.core_law.proofs.told_journals.threads_tell_journals.Goals as goal

pub returns : goal.returns
returns g c = threads_tell_journals g.C.ThreadCode.code
