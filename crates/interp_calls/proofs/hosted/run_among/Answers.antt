use Rattle.std.proofs.Common.{◌∙◌, None, Some, ap, sym, subst}
use Rattle.java_rows.specs.Program.{steps_of}
use Rattle.interp_calls.specs.Hosted.{StaysBegun}
use Rattle.interp_calls.specs.Local.{local_of, saved_locals}
use Rattle.interp_calls.proofs.HostedLemmas.{accessed, gone_leads, gone_kept, gone_led, may_on, may_over, saves_same, stays_on, stretched}
use Rattle.interp_calls.proofs.hosted.run_among.Goals as goal

pub ask_access-requires-clause-steps : goal.ask_access-requires-clause-steps
ask_access-requires-clause-steps g c =
    let us = g.P.Constants.units c.args.program.now in
    let me = c.args.thread in
    let first = c.args.frames in
    let new = c.run_here-made.new.frames in
    let saves = saved_locals us me first in
    let on = stretched us me g.H.OpHost.passes g.H.OpHost.answers c.args.steps.now c.run_here-made.result first c.loop-asked.frames new c.args.host.now c.loop-asked.host c.pass.new.self
    c.requires.steps c.loop-asked.invariant.stays c.has_few.ensures c.run_here-made.ensures.run c.pass.ensures c.loop-asked.invariant.led in
    c.requires.steps ∙ ap (steps_of us) (sym on.1.method)

pub ask_access-requires-clause-begun : goal.ask_access-requires-clause-begun
ask_access-requires-clause-begun g c =
    let us = g.P.Constants.units c.args.program.now in
    let me = c.args.thread in
    let first = c.args.frames in
    let new = c.run_here-made.new.frames in
    let saves = saved_locals us me first in
    let on = stretched us me g.H.OpHost.passes g.H.OpHost.answers c.args.steps.now c.run_here-made.result first c.loop-asked.frames new c.args.host.now c.loop-asked.host c.pass.new.self
    c.requires.steps c.loop-asked.invariant.stays c.has_few.ensures c.run_here-made.ensures.run c.pass.ensures c.loop-asked.invariant.led in
    on.1.stage

pub ask_access-requires-clause-may : goal.ask_access-requires-clause-may
ask_access-requires-clause-may g c =
    let us = g.P.Constants.units c.args.program.now in
    let me = c.args.thread in
    let first = c.args.frames in
    let new = c.run_here-made.new.frames in
    let saves = saved_locals us me first in
    let on = stretched us me g.H.OpHost.passes g.H.OpHost.answers c.args.steps.now c.run_here-made.result first c.loop-asked.frames new c.args.host.now c.loop-asked.host c.pass.new.self
    c.requires.steps c.loop-asked.invariant.stays c.has_few.ensures c.run_here-made.ensures.run c.pass.ensures c.loop-asked.invariant.led in
    may_over saves g.H.OpHost.passes g.H.OpHost.answers g.H.OpHost.may (saved_locals us me new) (local_of us me new) c.pass.new.self (sym (saves_same us me first new on.1.saves))
    (may_on saves g.H.OpHost.passes g.H.OpHost.answers g.H.OpHost.may (local_of us me first) (local_of us me new) c.args.host.now c.pass.new.self c.requires.may on.0)

pub returns-in-Some-clause-led : goal.returns-in-Some-clause-led
returns-in-Some-clause-led g c =
    let us = g.P.Constants.units c.args.program.now in
    let me = c.args.thread in
    let first = c.args.frames in
    let new = c.run_here-made.new.frames in
    let saves = saved_locals us me first in
    let on = stretched us me g.H.OpHost.passes g.H.OpHost.answers c.args.steps.now c.run_here-made.result first c.loop-asked.frames new c.args.host.now c.loop-asked.host c.pass.new.self
    c.requires.steps c.loop-asked.invariant.stays c.has_few.ensures c.run_here-made.ensures.run c.pass.ensures c.loop-asked.invariant.led in
    let gone = accessed us me g.H.OpHost.passes g.H.OpHost.answers g.H.OpHost.declines first new c.ask_access.new.frames (Some c.in-Some.halt) c.args.host.now c.pass.new.self c.ask_access.new.host
    on.1 on.0 c.in-Some.ensures in
    gone_led us me saves g.H.OpHost.passes g.H.OpHost.answers g.H.OpHost.declines (local_of us me first) c.args.host.now c.ask_access.new.host new c.ask_access.new.frames c.in-Some.halt gone

pub returns-in-Some-clause-on : goal.returns-in-Some-clause-on
returns-in-Some-clause-on g c asks =
    let us = g.P.Constants.units c.args.program.now in
    let me = c.args.thread in
    let first = c.args.frames in
    let new = c.run_here-made.new.frames in
    let saves = saved_locals us me first in
    let on = stretched us me g.H.OpHost.passes g.H.OpHost.answers c.args.steps.now c.run_here-made.result first c.loop-asked.frames new c.args.host.now c.loop-asked.host c.pass.new.self
    c.requires.steps c.loop-asked.invariant.stays c.has_few.ensures c.run_here-made.ensures.run c.pass.ensures c.loop-asked.invariant.led in
    let gone = accessed us me g.H.OpHost.passes g.H.OpHost.answers g.H.OpHost.declines first new c.ask_access.new.frames (Some c.in-Some.halt) c.args.host.now c.pass.new.self c.ask_access.new.host
    on.1 on.0 c.in-Some.ensures in
    gone_leads us me saves g.H.OpHost.passes g.H.OpHost.answers g.H.OpHost.declines (local_of us me first) c.args.host.now c.ask_access.new.host new c.ask_access.new.frames c.in-Some.halt asks gone

pub returns-in-Some-clause-stays : goal.returns-in-Some-clause-stays
returns-in-Some-clause-stays g c =
    let us = g.P.Constants.units c.args.program.now in
    let me = c.args.thread in
    let first = c.args.frames in
    let new = c.run_here-made.new.frames in
    let saves = saved_locals us me first in
    let on = stretched us me g.H.OpHost.passes g.H.OpHost.answers c.args.steps.now c.run_here-made.result first c.loop-asked.frames new c.args.host.now c.loop-asked.host c.pass.new.self
    c.requires.steps c.loop-asked.invariant.stays c.has_few.ensures c.run_here-made.ensures.run c.pass.ensures c.loop-asked.invariant.led in
    let gone = accessed us me g.H.OpHost.passes g.H.OpHost.answers g.H.OpHost.declines first new c.ask_access.new.frames (Some c.in-Some.halt) c.args.host.now c.pass.new.self c.ask_access.new.host
    on.1 on.0 c.in-Some.ensures in
    subst (λ x. StaysBegun first x) (sym (gone_kept us me saves g.H.OpHost.passes g.H.OpHost.answers g.H.OpHost.declines (local_of us me first) c.args.host.now c.ask_access.new.host
    new c.ask_access.new.frames c.in-Some.halt gone)) on.1

pub loop-asked-preserved : goal.loop-asked-preserved
loop-asked-preserved g c =
    let us = g.P.Constants.units c.args.program.now in
    let me = c.args.thread in
    let first = c.args.frames in
    let new = c.run_here-made.new.frames in
    let saves = saved_locals us me first in
    let on = stretched us me g.H.OpHost.passes g.H.OpHost.answers c.args.steps.now c.run_here-made.result first c.loop-asked.frames new c.args.host.now c.loop-asked.host c.pass.new.self
    c.requires.steps c.loop-asked.invariant.stays c.has_few.ensures c.run_here-made.ensures.run c.pass.ensures c.loop-asked.invariant.led in
    let gone = accessed us me g.H.OpHost.passes g.H.OpHost.answers g.H.OpHost.declines first new c.ask_access.new.frames None c.args.host.now c.pass.new.self c.ask_access.new.host
    on.1 on.0 c.in-None.ensures in
    record { led = gone.0; stays = stays_on first new c.ask_access.new.frames on.1 gone.1 }
