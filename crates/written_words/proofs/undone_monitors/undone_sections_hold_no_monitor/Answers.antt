use Rattle.written_words.proofs.undone_monitors.UndoneLemmas.{undone_sections_hold_no_monitor}
use Rattle.written_words.proofs.undone_monitors.undone_sections_hold_no_monitor.Goals as goal

pub returns : goal.returns
returns g c = undone_sections_hold_no_monitor g.C.ThreadCode.code
