use Rattle.core_law.proofs.third_law.CleanLemmas.{events_left_agree}
use Rattle.core_law.proofs.third_law.events_left_agree.Goals as goal

pub returns : goal.returns
returns g c = events_left_agree g.C.ThreadCode.code
