use Rattle.quick_turn_laws.proofs.PassLemmas.{usual_pass}
use Rattle.quick_turn_laws.proofs.usual_turns_pass.Goals as goal

pub returns : goal.returns
returns g c = usual_pass g.C.ThreadCode.code g.P.StepPort.stepped
