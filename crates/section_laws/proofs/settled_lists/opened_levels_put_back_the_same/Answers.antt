use Rattle.section_laws.proofs.settled_lists.PartLemmas.{opened_back}
use Rattle.section_laws.proofs.settled_lists.opened_levels_put_back_the_same.Goals as goal

pub returns : goal.returns
returns g = opened_back
