use Rattle.accepted_runs.proofs.LeftLemmas.{turns_tell_ends}
use Rattle.accepted_runs.proofs.text_laws.turns_tell_ends.Goals as goal

pub returns : goal.returns
returns c us main = turns_tell_ends us main
