use Rattle.section_laws.proofs.settled_lists.PartLemmas.{undone_back}
use Rattle.section_laws.proofs.settled_lists.undone_levels_put_back_none.Goals as goal

pub returns : goal.returns
returns g = undone_back
