use Rattle.trace_journal.proofs.LengthLemmas as lemmas
use Rattle.trace_journal.proofs.laws.journals_fit.Goals as goal

pub returns : goal.returns
returns c = lemmas.journals_fit
