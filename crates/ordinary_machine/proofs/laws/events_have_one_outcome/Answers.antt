use Rattle.ordinary_machine.proofs.OutcomeLemmas.{one_outcome}
use Rattle.ordinary_machine.proofs.laws.events_have_one_outcome.Goals as goal

pub returns : goal.returns
returns g c = one_outcome g.C.ThreadCode.code
