use Rattle.opening_cores.proofs.kept_cores.CoreLemmas.{objects_end}
use Rattle.opening_cores.proofs.kept_cores.objects_end_in_range.Goals as goal

pub returns : goal.returns
returns g c = objects_end g.C.ThreadCode.code
