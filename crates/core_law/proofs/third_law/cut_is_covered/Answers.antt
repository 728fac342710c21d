use Rattle.core_law.proofs.third_law.LevelLemmas.{cut_is_covered}
use Rattle.core_law.proofs.third_law.cut_is_covered.Goals as goal

pub returns : goal.returns
returns g c = cut_is_covered g.C.ThreadCode.code
