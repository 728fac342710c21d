use Rattle.word_runs.proofs.TurnLemmas.{turns_are_acts}
use Rattle.word_runs.proofs.turns_are_acts.Goals as goal

pub returns : goal.returns
returns g c = turns_are_acts g.C.ThreadCode.code
