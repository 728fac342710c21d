use Rattle.core_law.proofs.ErasureLemmas.{runs_are_erased}
use Rattle.core_law.proofs.runs_are_erased.Goals as goal

pub returns : goal.returns
returns g c = runs_are_erased g.C.ThreadCode.code
