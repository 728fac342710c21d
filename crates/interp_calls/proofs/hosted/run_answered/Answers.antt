use Rattle.std.proofs.Common.{sym, subst}
use Rattle.op_core.specs.Hosted.{IsLedTo}
use Rattle.java_rows.specs.Thread.{java_code}
use Rattle.interp_calls.specs.Local.{local_of, saved_locals}
use Rattle.interp_calls.proofs.hosted.run_answered.Goals as goal

pub returns-clause-led : goal.returns-clause-led
returns-clause-led g c =
    let us = g.P.Constants.units c.args.program.now in
    let me = c.args.thread in
    let new = c.keep_halt.new.frames in
    let taken = c.take-taken.result in
    let led = subst (λ x. IsLedTo java_code (saved_locals us me taken) g.H.OpHost.passes g.H.OpHost.answers g.H.OpHost.declines (local_of us me taken) c.args.host.now x
    c.run_among-after.new.host) (sym c.keep_halt.ensures.state) c.run_among-after.ensures.led in
    subst (λ x. IsLedTo java_code (saved_locals us me x) g.H.OpHost.passes g.H.OpHost.answers g.H.OpHost.declines (local_of us me x) c.args.host.now (local_of us me new)
    c.run_among-after.new.host) c.take-taken.ensures.taken led
