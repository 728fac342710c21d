use Rattle.ordinary_machine.proofs.ReferenceLemmas.{references_left}
use Rattle.ordinary_machine.proofs.laws.references_are_left.Goals as goal

pub returns : goal.returns
returns g c = references_left g.C.ThreadCode.code
