use Rattle.java_laws.proofs.OpeningLemmas.{openings_lie_below_first}
use Rattle.java_laws.proofs.laws.openings_lie_below_first.Goals as goal

pub returns : goal.returns
returns c = openings_lie_below_first
