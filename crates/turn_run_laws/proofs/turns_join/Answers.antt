use Rattle.turn_runs.proofs.TurnLemmas.{joined}
use Rattle.turn_run_laws.proofs.turns_join.Goals as goal

pub returns : goal.returns
returns g c = λ b th mid last x y z moves others turns further.
    joined g.C.ThreadCode.code b g.P.StepPort.stepped mid last y z moves others th x turns further
