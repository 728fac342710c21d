use Rattle.sched_core.proofs.FollowLemmas.{turns_go_on_as_acts}
use Rattle.sched_core.proofs.laws.turns_go_on_as_acts.Goals as goal

pub returns : goal.returns
returns g c = turns_go_on_as_acts g.C.ThreadCode.code
