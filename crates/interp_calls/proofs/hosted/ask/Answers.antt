use Rattle.std.proofs.Common.{rules, ◌≡◌, refl, sym, subst}
use Rattle.op_core.specs.Hosted.{IsLedTo}
use Rattle.java_rows.specs.Thread.{java_code}
use Rattle.interp_plans.specs.declared.reached.Reached.TheVariants as reached
use Rattle.interp_plans.specs.Replies.{then_of}
use Rattle.interp_plans.specs.Todos.{plan_reached}
use Rattle.interp_plans.specs.Uses.{frame_of}
use Rattle.interp_calls.specs.declared.hosted.Halt.TheVariants as halts
use Rattle.interp_calls.specs.Hosted.{halted_local, HostedTo}
use Rattle.interp_calls.specs.Local.{saved_locals}
use Rattle.interp_calls.proofs.HostedLemmas.{declined, may_ask, reaches, replied}
use Rattle.interp_calls.proofs.hosted.ask.Goals as goal

pub ask_host-requires : goal.ask_host-requires
ask_host-requires g c =
    let us = g.P.Constants.units c.args.program.now in
    let me = c.args.thread in
    let s = c.args.frames.now in
    let saves = saved_locals us me s in
    may_ask us me s c.args.todo c.in-Wants.op c.in-Wants.then c.in-Wants.is saves g.H.OpHost.passes g.H.OpHost.answers g.H.OpHost.may c.args.host.now c.requires.may

pub returns-in_default-reached_by : goal.returns-in_default-reached_by
returns-in_default-reached_by g c =
    let us = g.P.Constants.units c.args.program.now in
    let me = c.args.thread in
    let s = c.args.frames.now in
    let saves = saved_locals us me s in
    let told = c.in-Some.ensures.some in
    (replied us me s c.args.todo c.in-Wants.op c.in-Wants.then c.in-Wants.is saves g.H.OpHost.passes g.H.OpHost.answers c.in-Some.reply c.args.host.now c.ask_host.new.host told.0 told.1, refl)

pub returns-in-Goes : goal.returns-in-Goes
returns-in-Goes g c =
    let us = g.P.Constants.units c.args.program.now in
    let me = c.args.thread in
    let s = c.args.frames.now in
    let saves = saved_locals us me s in
    let told = c.in-Some.ensures.some in
    let row : then_of us me (frame_of s.here) c.in-Wants.then c.in-Some.reply ≡ plan_reached us me (frame_of s.here) (reached.Goes c.in-Goes.next) = search rules in
    let way = reaches us me s c.args.todo c.in-Wants.op c.in-Wants.then c.in-Wants.is saves g.H.OpHost.passes g.H.OpHost.answers c.in-Some.reply (reached.Goes c.in-Goes.next)
    c.args.host.now c.ask_host.new.host told.0 told.1 row in
    (way, refl)

pub returns-then-complete : goal.returns-then-complete
returns-then-complete g c =
    let us = g.P.Constants.units c.args.program.now in
    let me = c.args.thread in
    let s = c.args.frames.now in
    let saves = saved_locals us me s in
    let told = c.in-Some.ensures.some in
    let row : then_of us me (frame_of s.here) c.in-Wants.then c.in-Some.reply ≡ plan_reached us me (frame_of s.here) (reached.Completed c.in-Completed.operands c.in-Completed.value) = search rules in
    let way = reaches us me s c.args.todo c.in-Wants.op c.in-Wants.then c.in-Wants.is saves g.H.OpHost.passes g.H.OpHost.answers c.in-Some.reply (reached.Completed c.in-Completed.operands c.in-Completed.value)
    c.args.host.now c.ask_host.new.host told.0 told.1 row in (
      subst (λ x. HostedTo saves g.H.OpHost.passes g.H.OpHost.answers (halted_local us me s (halts.Goes c.args.todo)) c.args.host.now x c.ask_host.new.host)
          (sym (c.complete.ensures.state us me c.if-complete.true)) way,
      c.complete.ensures.stays c.if-complete.true,
    )

pub returns-else-complete : goal.returns-else-complete
returns-else-complete g c =
    let us = g.P.Constants.units c.args.program.now in
    let me = c.args.thread in
    let s = c.args.frames.now in
    let saves = saved_locals us me s in
    let told = c.in-Some.ensures.some in
    let row : then_of us me (frame_of s.here) c.in-Wants.then c.in-Some.reply ≡ plan_reached us me (frame_of s.here) (reached.Completed c.in-Completed.operands c.in-Completed.value) = search rules in
    let way = reaches us me s c.args.todo c.in-Wants.op c.in-Wants.then c.in-Wants.is saves g.H.OpHost.passes g.H.OpHost.answers c.in-Some.reply (reached.Completed c.in-Completed.operands c.in-Completed.value)
    c.args.host.now c.ask_host.new.host told.0 told.1 row in (
      subst (λ x. HostedTo saves g.H.OpHost.passes g.H.OpHost.answers (halted_local us me s (halts.Goes c.args.todo)) c.args.host.now
          (halted_local us me x (halts.Leads (reached.Completed c.in-Completed.operands c.in-Completed.value))) c.ask_host.new.host) (sym (c.complete.ensures.kept c.if-complete.false))
          way,
      c.complete.ensures.kept c.if-complete.false,
    )

pub returns-in_default-reached : goal.returns-in_default-reached
returns-in_default-reached g c =
    let us = g.P.Constants.units c.args.program.now in
    let me = c.args.thread in
    let s = c.args.frames.now in
    let saves = saved_locals us me s in
    let told = c.in-Some.ensures.some in
    let row : then_of us me (frame_of s.here) c.in-Wants.then c.in-Some.reply ≡ plan_reached us me (frame_of s.here) (c.in-Some-reached_by.reached) = search rules in
    let way = reaches us me s c.args.todo c.in-Wants.op c.in-Wants.then c.in-Wants.is saves g.H.OpHost.passes g.H.OpHost.answers c.in-Some.reply (c.in-Some-reached_by.reached)
    c.args.host.now c.ask_host.new.host told.0 told.1 row in
    (way, refl)

pub returns-in_default-ask_host : goal.returns-in_default-ask_host
returns-in_default-ask_host g c =
    let us = g.P.Constants.units c.args.program.now in
    let me = c.args.thread in
    let s = c.args.frames.now in
    let saves = saved_locals us me s in
    let refuses : g.H.OpHost.declines c.args.host.now c.in-Wants.op c.ask_host.new.host = search rules in
    let led = declined us me s c.args.todo c.in-Wants.op c.in-Wants.then c.in-Wants.is saves g.H.OpHost.passes g.H.OpHost.answers g.H.OpHost.declines c.args.host.now c.ask_host.new.host refuses in (
      subst (λ x. IsLedTo java_code saves g.H.OpHost.passes g.H.OpHost.answers g.H.OpHost.declines (halted_local us me s (halts.Goes c.args.todo)) c.args.host.now
          (halted_local us me s (halts.Goes x)) c.ask_host.new.host) c.in-Wants.is led,
      refl,
    )
