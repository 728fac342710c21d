use Rattle.core_law.proofs.third_law.LevelLemmas.{undoings_nest}
use Rattle.core_law.proofs.third_law.undoings_nest.Goals as goal

pub returns : goal.returns
returns g c = undoings_nest g.C.ThreadCode.code
