use Rattle.turn_run_laws.proofs.GivenLemmas.{turns_given}
use Rattle.turn_run_laws.proofs.turns_are_given.Goals as goal

pub returns : goal.returns
returns g c = turns_given g.C.ThreadCode.code
