use Rattle.std.proofs.Common.{refl, ap, ◌∙◌}
use Rattle.frame_snapshot.specs.declared.stage.FrameStage.TheVariants.{Calls}
use Rattle.java_rows.specs.Thread.{begun_first, first_frame}
use Rattle.interp_calls.specs.declared.calling.MethodCall.{MethodCall}
use Rattle.interp_calls.proofs.AgainLemmas.{entered}
use Rattle.interp_calls.proofs.silent.enter.Goals as goal

pub returns-in-Ok-clause-ok : goal.returns-in-Ok-clause-ok
returns-in-Ok-clause-ok g c =
    let us = g.P.Constants.units c.args.program.now in
    let me = c.args.thread in
    let s = c.args.frames.now in
    let site = c.args.site in
    let made : MethodCall = record { method = c.args.method; arguments = c.within_stack-within.result.operands; monitor = c.args.monitor; caller = Calls site.caller } in
    entered us me c.call.new.frames s.here s.below made site _
    (c.in-Ok.ensures.plan ∙ ap (λ args. begun_first us me (first_frame us c.args.method args c.args.monitor)) c.within_stack-within.ensures.arguments)
    c.in-Ok.ensures.below refl c.within_stack-within.ensures.operands c.within_stack-within.ensures.rest
