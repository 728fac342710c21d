use Rattle.java_words.proofs.OutcomeLemmas.{one_word_run}
use Rattle.java_words.proofs.laws.word_runs_have_one_outcome.Goals as goal

pub returns : goal.returns
returns c = one_word_run
