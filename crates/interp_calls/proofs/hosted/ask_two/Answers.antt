use Rattle.std.proofs.Common.{sym, subst}
use Rattle.op_core.specs.Hosted.{MayBeAsked}
use Rattle.java_rows.specs.Thread.{java_code}
use Rattle.interp_calls.specs.declared.hosted.Halt.TheVariants as halts
use Rattle.interp_calls.specs.Hosted.{halted_local, GoneTo}
use Rattle.interp_calls.specs.Local.{saved_locals}
use Rattle.interp_calls.proofs.HostedLemmas.{gone_on, may_on}
use Rattle.interp_calls.proofs.hosted.ask_two.Goals as goal

pub ask_one-requires-clause-may : goal.ask_one-requires-clause-may
ask_one-requires-clause-may g c =
    let us = g.P.Constants.units c.args.program.now in
    let me = c.args.thread in
    let s = c.args.frames.now in
    let saves = saved_locals us me s in
    let on = may_on saves g.H.OpHost.passes g.H.OpHost.answers g.H.OpHost.may (halted_local us me s (halts.Goes c.args.todo))
    (halted_local us me c.ask.new.frames (halts.Goes c.in-Goes.next)) c.args.host.now c.ask.new.host c.requires.may c.in-Goes.ensures.0 in
    subst (λ x. MayBeAsked java_code (saved_locals us me x) g.H.OpHost.passes g.H.OpHost.answers g.H.OpHost.may
    (halted_local us me c.ask.new.frames (halts.Goes c.in-Goes.next)) c.ask.new.host) (sym c.in-Goes.ensures.1) on

pub returns-in-Goes : goal.returns-in-Goes
returns-in-Goes g c =
    let us = g.P.Constants.units c.args.program.now in
    let me = c.args.thread in
    let s = c.args.frames.now in
    let saves = saved_locals us me s in
    let m = halted_local us me c.ask.new.frames (halts.Goes c.in-Goes.next) in
    let gone = subst (λ x. GoneTo us me (saved_locals us me x) g.H.OpHost.passes g.H.OpHost.answers g.H.OpHost.declines m c.ask.new.host
    c.ask.new.frames c.ask_one.result c.ask_one.new.frames c.ask_one.new.host) c.in-Goes.ensures.1 c.ask_one.ensures in
    gone_on us me saves g.H.OpHost.passes g.H.OpHost.answers g.H.OpHost.declines (halted_local us me s (halts.Goes c.args.todo)) m
    c.args.host.now c.ask.new.host c.ask_one.new.host s c.ask.new.frames c.ask_one.new.frames c.ask_one.result c.in-Goes.ensures.1 c.in-Goes.ensures.0 gone
