use Rattle.trace_journal.proofs.LawLemmas as lemmas
use Rattle.trace_journal.proofs.laws.texts_have_one_reading.Goals as goal

pub returns : goal.returns
returns c = lemmas.texts_have_one_reading
