use Rattle.journal_check.proofs.LawLemmas.{accepted}
use Rattle.journal_check.proofs.laws.accepted_texts_are_executions.Goals as goal

pub returns : goal.returns
returns g c = accepted g.C.ThreadCode.code
