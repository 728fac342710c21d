use Rattle.trace_journal.proofs.LawLemmas as lemmas
use Rattle.trace_journal.proofs.laws.readings_are_journals.Goals as goal

pub returns : goal.returns
returns c = lemmas.readings_are_journals
