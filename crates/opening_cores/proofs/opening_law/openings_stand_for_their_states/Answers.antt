use Rattle.opening_cores.proofs.opening_law.OpeningLemmas.{stand_for}
use Rattle.opening_cores.proofs.opening_law.openings_stand_for_their_states.Goals as goal

pub returns : goal.returns
returns g c = stand_for
