use Rattle.std.proofs.Common.{sym, ap, ◌∙◌}
use Rattle.java_rows.specs.Thread.{at}
use Rattle.interp_plans.specs.Uses.{frame_of}
use Rattle.interp_calls.specs.Local.{local_of, waiting_below}
use Rattle.interp_calls.proofs.SettleLemmas.{looks_bare}
use Rattle.interp_calls.proofs.apply.throw.Goals as goal

pub returns-clause-state : goal.returns-clause-state
returns-clause-state g c =
    let us = g.P.Constants.units c.args.program.now in
    let me = c.args.thread in
    ap (local_of us me) c.go_on.ensures
    ∙ ap (λ p. at us me p (waiting_below us me c.args.frames.now.below))
    (sym (looks_bare us (frame_of c.args.frames.now.here) c.args.object c.args.class ∙ c.look_for-todo.ensures))
