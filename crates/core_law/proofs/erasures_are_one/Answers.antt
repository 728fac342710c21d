use Rattle.core_law.proofs.EntryLemmas.{erasures_are_one}
use Rattle.core_law.proofs.erasures_are_one.Goals as goal

pub returns : goal.returns
returns g c = erasures_are_one g.C.ThreadCode.code
