use Rattle.journal_check.proofs.LawLemmas.{executions_accepted}
use Rattle.journal_check.proofs.laws.executions_are_accepted.Goals as goal

pub returns : goal.returns
returns g c = executions_accepted g.C.ThreadCode.code
