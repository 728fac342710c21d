use Rattle.turn_run_laws.proofs.JoinLemmas.{turns_lead_on}
use Rattle.turn_run_laws.proofs.turns_go_on.Goals as goal

pub returns : goal.returns
returns g c = turns_lead_on g.C.ThreadCode.code
