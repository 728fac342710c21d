use Rattle.ordinary_machine.proofs.OutcomeLemmas.{one_answer}
use Rattle.ordinary_machine.proofs.laws.advances_have_one_answer.Goals as goal

pub returns : goal.returns
returns g c = one_answer g.C.ThreadCode.code
