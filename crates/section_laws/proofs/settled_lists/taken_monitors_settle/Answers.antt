use Rattle.section_laws.proofs.settled_lists.MonitorLemmas.{takes_monitor}
use Rattle.section_laws.proofs.settled_lists.taken_monitors_settle.Goals as goal

pub returns : goal.returns
returns g settled settled' held back back' facts t h free_before others now =
    takes_monitor settled held back facts t h settled' back' free_before others.0 others.1 now
