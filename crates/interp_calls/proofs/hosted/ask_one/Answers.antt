use Rattle.interp_calls.specs.declared.hosted.Halt.TheVariants as halts
use Rattle.interp_calls.specs.Hosted.{halted_local}
use Rattle.interp_calls.specs.Local.{saved_locals}
use Rattle.interp_calls.proofs.HostedLemmas.{led_there}
use Rattle.interp_calls.proofs.hosted.ask_one.Goals as goal

pub returns-in-Goes : goal.returns-in-Goes
returns-in-Goes g c =
    let us = g.P.Constants.units c.args.program.now in
    let me = c.args.thread in
    let s = c.args.frames.now in
    let saves = saved_locals us me s in (
      led_there saves g.H.OpHost.passes g.H.OpHost.answers g.H.OpHost.declines (halted_local us me s (halts.Goes c.args.todo))
          (halted_local us me c.ask.new.frames (halts.Goes c.in-Goes.next)) c.args.host.now c.ask.new.host c.in-Goes.ensures.0,
      c.in-Goes.ensures.1,
    )
