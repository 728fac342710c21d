use Rattle.section_laws.proofs.settled_lists.MonitorLemmas.{opened_depth}
use Rattle.section_laws.proofs.settled_lists.opened_levels_keep_depths.Goals as goal

pub returns : goal.returns
returns g = opened_depth
