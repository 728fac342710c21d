use Rattle.std.proofs.Common.{rules, ◌≡◌, true, false, refl, sym, ap, ◌∙◌}
use Rattle.java_rows.specs.Thread.{begun, is_end}
use Rattle.interp_plans.specs.Todos.{plan_at, plan_of}
use Rattle.interp_plans.specs.Uses.{frame_of}
use Rattle.interp_calls.proofs.SilentLemmas.{begun_stays, leaves_is, leaves_not}
use Rattle.interp_calls.proofs.silent.leaves_outside.Goals as goal

pub returns-then-ends_frame : goal.returns-then-ends_frame
returns-then-ends_frame g c =
    let us = g.P.Constants.units c.args.program.now in
    let me = c.args.thread in
    let s = c.args.frames.now in
    let plan = plan_of us me (frame_of s.here) c.in-Some.todo in
    let ending : is_end plan ≡ true = search rules in
    c.was_saved.ensures ∙ sym (leaves_is us me s plan c.in-Some.ensures.some ending)

pub returns-else-ends_frame : goal.returns-else-ends_frame
returns-else-ends_frame g c =
    let us = g.P.Constants.units c.args.program.now in
    let me = c.args.thread in
    let s = c.args.frames.now in
    let plan = plan_of us me (frame_of s.here) c.in-Some.todo in
    let ending : is_end plan ≡ false = search rules in
    let told : c.ends_frame.result ≡ false = search rules in
    told ∙ sym (leaves_not us me s plan c.in-Some.ensures.some ending)

pub returns-in-None : goal.returns-in-None
returns-in-None g c =
    let us = g.P.Constants.units c.args.program.now in
    let me = c.args.thread in
    let s = c.args.frames.now in
    sym (leaves_not us me s (begun us me (frame_of s.here)) (ap (plan_at us me (frame_of s.here)) (c.in-None.ensures.begun refl)) (begun_stays us me s (c.in-None.ensures.none refl)))
