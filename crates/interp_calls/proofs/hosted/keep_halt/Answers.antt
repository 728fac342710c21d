use Rattle.std.proofs.Common.{sym, ap, ◌∙◌}
use Rattle.interp_plans.specs.Uses.{frame_of}
use Rattle.interp_calls.specs.Hosted.{halted_local}
use Rattle.interp_calls.specs.Local.{local_of, waiting_below}
use Rattle.interp_calls.proofs.SettleLemmas.{todo_settles}
use Rattle.interp_calls.proofs.hosted.keep_halt.Goals as goal

pub returns-in-Goes-clause-state : goal.returns-in-Goes-clause-state
returns-in-Goes-clause-state g c =
    let us = g.P.Constants.units c.args.program.now in
    let me = c.args.thread in
    let s = c.args.frames.now in
    ap (local_of us me) c.go_on.ensures
    ∙ sym (todo_settles us me (frame_of s.here) c.in-Goes.todo (waiting_below us me s.below))
    ∙ ap (λ h. halted_local us me s h) (sym c.in-Goes.is)
