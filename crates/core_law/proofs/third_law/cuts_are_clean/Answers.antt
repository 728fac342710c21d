use Rattle.core_law.proofs.third_law.CleanLemmas.{cuts_are_clean}
use Rattle.core_law.proofs.third_law.cuts_are_clean.Goals as goal

pub returns : goal.returns
returns g c = cuts_are_clean g.C.ThreadCode.code
