use Rattle.enabled_law.proofs.WatchLemmas.{unseen_leave}
use Rattle.enabled_law.proofs.laws.unseen_steps_leave_enabled.Goals as goal

pub returns : goal.returns
returns g c = unseen_leave g.C.ThreadCode.code
