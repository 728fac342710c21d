use Rattle.std.proofs.Common.{sym, ap, ◌∙◌}
use Rattle.java_rows.specs.Thread.{is_end}
use Rattle.interp_plans.specs.Todos.{plan_of}
use Rattle.interp_plans.specs.Uses.{frame_of}
use Rattle.interp_calls.proofs.SilentLemmas.{leaves_is}
use Rattle.interp_calls.proofs.silent.silent_outside.Goals as goal

pub step-requires-clause-stays : goal.step-requires-clause-stays
step-requires-clause-stays g c outcome is =
    let us = g.P.Constants.units c.args.program.now in
    let me = c.args.thread in
    let s = c.args.frames.now in
    let plan = plan_of us me (frame_of s.here) c.in-Some.todo in
    sym (leaves_is us me s plan c.in-Some.ensures.some (ap (λ t. is_end (plan_of us me (frame_of s.here) t)) is)) ∙ c.requires.stays
