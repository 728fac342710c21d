use Rattle.section_laws.proofs.settled_lists.MonitorLemmas.{sets_depth}
use Rattle.section_laws.proofs.settled_lists.deepened_monitors_settle.Goals as goal

pub returns : goal.returns
returns g settled settled' held back back' facts t r depth is others now =
    sets_depth settled held back facts t r depth settled' back' is others.0 others.1 now
