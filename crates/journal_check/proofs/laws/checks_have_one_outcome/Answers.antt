use Rattle.journal_check.proofs.LawLemmas.{one_check}
use Rattle.journal_check.proofs.laws.checks_have_one_outcome.Goals as goal

pub returns : goal.returns
returns g c = one_check g.C.ThreadCode.code
