use Rattle.core_law.proofs.third_law.AllowedLemmas.{cut_is_allowed}
use Rattle.core_law.proofs.third_law.cut_is_allowed.Goals as goal

pub returns : goal.returns
returns g c = cut_is_allowed g.C.ThreadCode.code
