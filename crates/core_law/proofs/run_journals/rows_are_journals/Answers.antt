use Rattle.core_law.proofs.run_journals.JournalLaw.{rows_are_journals}
use Rattle.core_law.proofs.run_journals.rows_are_journals.Goals as goal

pub returns : goal.returns
returns g c = rows_are_journals g.C.ThreadCode.code
