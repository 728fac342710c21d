use Rattle.section_laws.proofs.settled_lists.PartLemmas.{closed_back}
use Rattle.section_laws.proofs.settled_lists.closed_levels_put_back_the_same.Goals as goal

pub returns : goal.returns
returns g = closed_back
