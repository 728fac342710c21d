use Rattle.turn_run_laws.proofs.GivenLemmas.{on_words}
use Rattle.turn_run_laws.proofs.turns_are_on_words.Goals as goal

pub returns : goal.returns
returns g c = on_words g.C.ThreadCode.code g.P.StepPort.stepped
