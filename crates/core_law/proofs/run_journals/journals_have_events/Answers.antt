use Rattle.core_law.proofs.run_journals.JournalLemmas.{journals_have_events}
use Rattle.core_law.proofs.run_journals.journals_have_events.Goals as goal

pub returns : goal.returns
returns g c = journals_have_events g.C.ThreadCode.State
