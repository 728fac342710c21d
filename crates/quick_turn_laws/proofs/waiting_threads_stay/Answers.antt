use Rattle.quick_turn_laws.proofs.WaitLemmas.{waiting_stay}
use Rattle.quick_turn_laws.proofs.waiting_threads_stay.Goals as goal

pub returns : goal.returns
returns g c = waiting_stay g.C.ThreadCode.code
