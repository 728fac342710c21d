use Rattle.trace_journal.proofs.LawLemmas as lemmas
use Rattle.trace_journal.proofs.laws.journals_read_back.Goals as goal

pub returns : goal.returns
returns c = lemmas.journals_read_back
