use Rattle.turn_run_laws.proofs.GivenLemmas.{passed_hand_none_out}
use Rattle.turn_run_laws.proofs.passed_turns_hand_none_out.Goals as goal

pub returns : goal.returns
returns g c = passed_hand_none_out g.C.ThreadCode.code g.P.StepPort.stepped
