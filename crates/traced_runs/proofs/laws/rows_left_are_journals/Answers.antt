use Rattle.traced_runs.proofs.JournalLemmas.{rows_left}
use Rattle.traced_runs.proofs.laws.rows_left_are_journals.Goals as goal

pub returns : goal.returns
returns g c = rows_left g.C.ThreadCode.code c.steps_tell_rows.ensures c.silent_moves_tell_nothing.ensures c.threads_tell_journals.ensures
