use Rattle.core_law.proofs.third_law.LevelLemmas.{undone_is_cut}
use Rattle.core_law.proofs.third_law.undone_is_cut.Goals as goal

pub returns : goal.returns
returns g c = undone_is_cut g.C.ThreadCode.code
