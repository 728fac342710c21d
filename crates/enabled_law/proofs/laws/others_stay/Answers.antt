use Rattle.enabled_law.proofs.StayLemmas.{others_stay}
use Rattle.enabled_law.proofs.laws.others_stay.Goals as goal

pub returns : goal.returns
returns g c = others_stay g.C.ThreadCode.code
