use Rattle.opening_cores.proofs.OpeningLemmas.{openings_are_ordinary}
use Rattle.opening_cores.proofs.openings_are_ordinary.Goals as goal

pub returns : goal.returns
returns g c = openings_are_ordinary g.C.ThreadCode.code
