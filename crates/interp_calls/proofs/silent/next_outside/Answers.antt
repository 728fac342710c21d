use Rattle.std.proofs.Common.{refl, sym, ap, ◌∙◌}
use Rattle.java_rows.specs.Thread.{next_of}
use Rattle.interp_plans.specs.Todos.{plan_at}
use Rattle.interp_plans.specs.Uses.{frame_of}
use Rattle.interp_calls.proofs.SilentLemmas.{begun_silent}
use Rattle.interp_calls.proofs.silent.next_outside.Goals as goal

pub returns-in-None : goal.returns-in-None
returns-in-None g c =
    let us = g.P.Constants.units c.args.program.now in
    let me = c.args.thread in
    let s = c.args.frames.now in
    sym (ap next_of (ap (plan_at us me (frame_of s.here)) (c.in-None.ensures.begun refl)) ∙ begun_silent us me s (c.in-None.ensures.none refl))
