use Rattle.section_laws.proofs.settled_lists.MonitorLemmas.{releases_monitor}
use Rattle.section_laws.proofs.settled_lists.released_monitors_settle.Goals as goal

pub returns : goal.returns
returns g settled settled' held back back' facts t r is others now =
    releases_monitor settled held back facts t r settled' back' is others.0 others.1 now
