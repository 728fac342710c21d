use Rattle.core_law.proofs.third_law.CleanLemmas.{events_left_settle}
use Rattle.core_law.proofs.third_law.events_left_settle.Goals as goal

pub returns : goal.returns
returns g c = events_left_settle g.C.ThreadCode.code
