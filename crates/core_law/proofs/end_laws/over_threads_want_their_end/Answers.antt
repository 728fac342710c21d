use Rattle.core_law.proofs.LeftEndLemmas.{over_threads_want_their_end}
use Rattle.core_law.proofs.end_laws.over_threads_want_their_end.Goals as goal

pub returns : goal.returns
returns g c = over_threads_want_their_end g.C.ThreadCode.code
