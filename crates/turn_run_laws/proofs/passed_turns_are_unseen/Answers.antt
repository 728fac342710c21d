use Rattle.turn_run_laws.proofs.GivenLemmas.{passed_unseen}
use Rattle.turn_run_laws.proofs.passed_turns_are_unseen.Goals as goal

pub returns : goal.returns
returns c = passed_unseen
