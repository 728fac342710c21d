use Rattle.java_words.proofs.OutcomeLemmas.{one_traced_run}
use Rattle.java_words.proofs.laws.traced_runs_have_one_outcome.Goals as goal

pub returns : goal.returns
returns c = one_traced_run
