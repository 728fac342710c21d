use Rattle.std.proofs.Common.{sym, ap, ◌∙◌}
use Rattle.java_rows.specs.Thread.{settled}
use Rattle.interp_plans.specs.Todos.{plan_reached}
use Rattle.interp_plans.specs.Uses.{frame_of}
use Rattle.interp_calls.specs.Local.{local_of, waiting_below}
use Rattle.interp_calls.proofs.SettleLemmas.{todo_settles}
use Rattle.interp_calls.proofs.apply.apply.Goals as goal

pub returns-in-Goes-clause-state : goal.returns-in-Goes-clause-state
returns-in-Goes-clause-state g c =
    let us = g.P.Constants.units c.args.program.now in
    let me = c.args.thread in
    ap (local_of us me) c.go_on.ensures
    ∙ sym (todo_settles us me (frame_of c.args.frames.now.here) c.in-Goes.todo (waiting_below us me c.args.frames.now.below))
    ∙ ap (λ x. settled us me (plan_reached us me (frame_of c.args.frames.now.here) x) (waiting_below us me c.args.frames.now.below)) (sym c.in-Goes.is)
