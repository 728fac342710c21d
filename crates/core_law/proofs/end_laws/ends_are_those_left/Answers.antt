use Rattle.core_law.proofs.LeftEndLemmas.{ends_are_those_left}
use Rattle.core_law.proofs.end_laws.ends_are_those_left.Goals as goal

pub returns : goal.returns
returns g c = ends_are_those_left g.C.ThreadCode.code
