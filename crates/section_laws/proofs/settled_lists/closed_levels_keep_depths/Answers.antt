use Rattle.section_laws.proofs.settled_lists.MonitorLemmas.{closed_depth}
use Rattle.section_laws.proofs.settled_lists.closed_levels_keep_depths.Goals as goal

pub returns : goal.returns
returns g = closed_depth
