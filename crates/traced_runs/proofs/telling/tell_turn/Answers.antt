use Rattle.std.proofs.Common.{sym, subst}
use Rattle.journal_rows.specs.Rows.{AreRowsTold}
use Rattle.traced_runs.specs.Calls.{calls_of_shown, calls_of_levels}
use Rattle.traced_runs.proofs.CallLemmas.{calls_append, on_ok}
use Rattle.traced_runs.proofs.telling.tell_turn.Goals as goal

pub returns : goal.returns
returns c = on_ok c.tell_levels.result
    (λ later s is. subst (AreRowsTold c.tell_levels.new.rows) (sym (calls_append (calls_of_levels c.args.thread c.args.turn.now) (calls_of_shown c.args.thread c.args.turn.now) s)) (later _ (c.in_ok-tell_shown.ensures s is)))
    c.tell_levels.ensures
