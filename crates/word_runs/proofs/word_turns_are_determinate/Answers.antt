use Rattle.word_runs.proofs.TurnLemmas.{word_turns_are_determinate}
use Rattle.word_runs.proofs.word_turns_are_determinate.Goals as goal

pub returns : goal.returns
returns g c = word_turns_are_determinate g.C.ThreadCode.code
