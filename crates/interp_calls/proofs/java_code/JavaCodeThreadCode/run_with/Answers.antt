use Rattle.std.proofs.Common.{rules, ◌≡◌, ◌∙◌, true, sym}
use Rattle.interp_calls.specs.Local.{saved_locals, state_over}
use Rattle.interp_calls.proofs.HostedLemmas.{leads_on, leads_over, led_on, led_over, may_on, may_over}
use Rattle.interp_calls.proofs.java_code.JavaCodeThreadCode.run_with.Goals as goal

pub ask_next-requires : goal.ask_next-requires
ask_next-requires g c =
    record {
      may = may_over (saved_locals (g.P.Constants.units c.args.self.now.program.now) c.args.self.now.thread c.args.self.now.frames) g.H.OpHost.passes g.H.OpHost.answers g.H.OpHost.may (saved_locals (g.P.Constants.units c.loop-asked.self.program.now) c.loop-asked.self.thread c.loop-asked.self.frames) (state_over (g.P.Constants.units c.loop-asked.self.program.now) c.loop-asked.self.thread c.loop-asked.self.frames c.loop-asked.self.texts c.loop-asked.self.text) c.loop-asked.host (sym c.loop-asked.invariant.saves)
          (may_on (saved_locals (g.P.Constants.units c.args.self.now.program.now) c.args.self.now.thread c.args.self.now.frames) g.H.OpHost.passes g.H.OpHost.answers g.H.OpHost.may (state_over (g.P.Constants.units c.args.self.now.program.now) c.args.self.now.thread c.args.self.now.frames c.args.self.now.texts c.args.self.now.text) (state_over (g.P.Constants.units c.loop-asked.self.program.now) c.loop-asked.self.thread c.loop-asked.self.frames c.loop-asked.self.texts c.loop-asked.self.text) c.args.host.now c.loop-asked.host c.requires.may c.loop-asked.invariant.led);
    }

pub returns-then-not-ask_next-clause-led : goal.returns-then-not-ask_next-clause-led
returns-then-not-ask_next-clause-led g c =
    led_on (saved_locals (g.P.Constants.units c.args.self.now.program.now) c.args.self.now.thread c.args.self.now.frames) g.H.OpHost.passes g.H.OpHost.answers g.H.OpHost.declines (state_over (g.P.Constants.units c.args.self.now.program.now) c.args.self.now.thread c.args.self.now.frames c.args.self.now.texts c.args.self.now.text) (state_over (g.P.Constants.units c.loop-asked.self.program.now) c.loop-asked.self.thread c.loop-asked.self.frames c.loop-asked.self.texts c.loop-asked.self.text) (state_over (g.P.Constants.units c.ask_next.new.self.program.now) c.ask_next.new.self.thread c.ask_next.new.self.frames c.ask_next.new.self.texts c.ask_next.new.self.text) c.args.host.now c.loop-asked.host c.ask_next.new.host c.loop-asked.invariant.led
    (led_over (saved_locals (g.P.Constants.units c.args.self.now.program.now) c.args.self.now.thread c.args.self.now.frames) g.H.OpHost.passes g.H.OpHost.answers g.H.OpHost.declines (saved_locals (g.P.Constants.units c.loop-asked.self.program.now) c.loop-asked.self.thread c.loop-asked.self.frames) (state_over (g.P.Constants.units c.loop-asked.self.program.now) c.loop-asked.self.thread c.loop-asked.self.frames c.loop-asked.self.texts c.loop-asked.self.text) (state_over (g.P.Constants.units c.ask_next.new.self.program.now) c.ask_next.new.self.thread c.ask_next.new.self.frames c.ask_next.new.self.texts c.ask_next.new.self.text) c.loop-asked.host c.ask_next.new.host c.loop-asked.invariant.saves c.ask_next.ensures.led)

pub loop-asked-preserved : goal.loop-asked-preserved
loop-asked-preserved g c =
    let on : c.ask_next.result ≡ true = search rules in
    record {
      led = leads_on (saved_locals (g.P.Constants.units c.args.self.now.program.now) c.args.self.now.thread c.args.self.now.frames) g.H.OpHost.passes g.H.OpHost.answers (state_over (g.P.Constants.units c.args.self.now.program.now) c.args.self.now.thread c.args.self.now.frames c.args.self.now.texts c.args.self.now.text) (state_over (g.P.Constants.units c.loop-asked.self.program.now) c.loop-asked.self.thread c.loop-asked.self.frames c.loop-asked.self.texts c.loop-asked.self.text) (state_over (g.P.Constants.units c.ask_next.new.self.program.now) c.ask_next.new.self.thread c.ask_next.new.self.frames c.ask_next.new.self.texts c.ask_next.new.self.text) c.args.host.now c.loop-asked.host c.ask_next.new.host c.loop-asked.invariant.led
          (leads_over (saved_locals (g.P.Constants.units c.args.self.now.program.now) c.args.self.now.thread c.args.self.now.frames) g.H.OpHost.passes g.H.OpHost.answers (saved_locals (g.P.Constants.units c.loop-asked.self.program.now) c.loop-asked.self.thread c.loop-asked.self.frames) (state_over (g.P.Constants.units c.loop-asked.self.program.now) c.loop-asked.self.thread c.loop-asked.self.frames c.loop-asked.self.texts c.loop-asked.self.text) (state_over (g.P.Constants.units c.ask_next.new.self.program.now) c.ask_next.new.self.thread c.ask_next.new.self.frames c.ask_next.new.self.texts c.ask_next.new.self.text) c.loop-asked.host c.ask_next.new.host c.loop-asked.invariant.saves (c.ask_next.ensures.on on));
      saves = c.ask_next.ensures.saved ∙ c.loop-asked.invariant.saves;
    }
