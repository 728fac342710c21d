use Rattle.std.proofs.Common.{◌∙◌, sym, inr}
use Rattle.interp_calls.specs.Local.{saved_locals, state_over}
use Rattle.interp_calls.proofs.HostedLemmas.{answer_leads, leads_on, leads_over, led_on, led_over, led_there, may_on, may_over, stretch_leads}
use Rattle.interp_calls.proofs.java_code.JavaCode.ask_next.Goals as goal

pub ask-requires : goal.ask-requires
ask-requires g c =
    let way = stretch_leads (saved_locals (g.P.Constants.units c.args.self.now.program.now) c.args.self.now.thread c.args.self.now.frames) g.H.OpHost.passes g.H.OpHost.answers c.run_silent-made.result (state_over (g.P.Constants.units c.args.self.now.program.now) c.args.self.now.thread c.args.self.now.frames c.args.self.now.texts c.args.self.now.text) (state_over (g.P.Constants.units c.run_silent-made.new.self.program.now) c.run_silent-made.new.self.thread c.run_silent-made.new.self.frames c.run_silent-made.new.self.texts c.run_silent-made.new.self.text) c.args.host.now c.pass.new.self
    c.run_silent-made.ensures.steps c.run_silent-made.ensures.stays c.pass.ensures in
    c.requires.may way.0 (state_over (g.P.Constants.units c.run_silent-made.new.self.program.now) c.run_silent-made.new.self.thread c.run_silent-made.new.self.frames c.run_silent-made.new.self.texts c.run_silent-made.new.self.text) c.pass.new.self way.1 c.in-Want.op (sym c.next.ensures ∙ c.in-Want.is)

pub go_on_answered-requires : goal.go_on_answered-requires
go_on_answered-requires g c =
    let way = stretch_leads (saved_locals (g.P.Constants.units c.args.self.now.program.now) c.args.self.now.thread c.args.self.now.frames) g.H.OpHost.passes g.H.OpHost.answers c.run_silent-made.result (state_over (g.P.Constants.units c.args.self.now.program.now) c.args.self.now.thread c.args.self.now.frames c.args.self.now.texts c.args.self.now.text) (state_over (g.P.Constants.units c.run_silent-made.new.self.program.now) c.run_silent-made.new.self.thread c.run_silent-made.new.self.frames c.run_silent-made.new.self.texts c.run_silent-made.new.self.text) c.args.host.now c.pass.new.self
    c.run_silent-made.ensures.steps c.run_silent-made.ensures.stays c.pass.ensures in
    let told = c.in-Some.ensures.some in
    let replied = answer_leads (saved_locals (g.P.Constants.units c.args.self.now.program.now) c.args.self.now.thread c.args.self.now.frames) g.H.OpHost.passes g.H.OpHost.answers (state_over (g.P.Constants.units c.run_silent-made.new.self.program.now) c.run_silent-made.new.self.thread c.run_silent-made.new.self.frames c.run_silent-made.new.self.texts c.run_silent-made.new.self.text) (state_over (g.P.Constants.units c.reply.new.self.program.now) c.reply.new.self.thread c.reply.new.self.frames c.reply.new.self.texts c.reply.new.self.text) c.pass.new.self c.ask.new.self c.in-Want.op c.in-Some.reply
    (sym c.next.ensures ∙ c.in-Want.is) told.0 told.1 c.reply.ensures.state in
    let further = leads_on (saved_locals (g.P.Constants.units c.args.self.now.program.now) c.args.self.now.thread c.args.self.now.frames) g.H.OpHost.passes g.H.OpHost.answers (state_over (g.P.Constants.units c.args.self.now.program.now) c.args.self.now.thread c.args.self.now.frames c.args.self.now.texts c.args.self.now.text) (state_over (g.P.Constants.units c.run_silent-made.new.self.program.now) c.run_silent-made.new.self.thread c.run_silent-made.new.self.frames c.run_silent-made.new.self.texts c.run_silent-made.new.self.text) (state_over (g.P.Constants.units c.reply.new.self.program.now) c.reply.new.self.thread c.reply.new.self.frames c.reply.new.self.texts c.reply.new.self.text) c.args.host.now c.pass.new.self c.ask.new.self way replied in
    let same = c.reply.ensures.saved ∙ c.run_silent-made.ensures.saved in
    record {
      may = may_over (saved_locals (g.P.Constants.units c.args.self.now.program.now) c.args.self.now.thread c.args.self.now.frames) g.H.OpHost.passes g.H.OpHost.answers g.H.OpHost.may (saved_locals (g.P.Constants.units c.reply.new.self.program.now) c.reply.new.self.thread c.reply.new.self.frames) (state_over (g.P.Constants.units c.reply.new.self.program.now) c.reply.new.self.thread c.reply.new.self.frames c.reply.new.self.texts c.reply.new.self.text) c.ask.new.self (sym same)
          (may_on (saved_locals (g.P.Constants.units c.args.self.now.program.now) c.args.self.now.thread c.args.self.now.frames) g.H.OpHost.passes g.H.OpHost.answers g.H.OpHost.may (state_over (g.P.Constants.units c.args.self.now.program.now) c.args.self.now.thread c.args.self.now.frames c.args.self.now.texts c.args.self.now.text) (state_over (g.P.Constants.units c.reply.new.self.program.now) c.reply.new.self.thread c.reply.new.self.frames c.reply.new.self.texts c.reply.new.self.text) c.args.host.now c.ask.new.self c.requires.may further);
    }

pub returns-in-Some-clause-led : goal.returns-in-Some-clause-led
returns-in-Some-clause-led g c =
    let way = stretch_leads (saved_locals (g.P.Constants.units c.args.self.now.program.now) c.args.self.now.thread c.args.self.now.frames) g.H.OpHost.passes g.H.OpHost.answers c.run_silent-made.result (state_over (g.P.Constants.units c.args.self.now.program.now) c.args.self.now.thread c.args.self.now.frames c.args.self.now.texts c.args.self.now.text) (state_over (g.P.Constants.units c.run_silent-made.new.self.program.now) c.run_silent-made.new.self.thread c.run_silent-made.new.self.frames c.run_silent-made.new.self.texts c.run_silent-made.new.self.text) c.args.host.now c.pass.new.self
    c.run_silent-made.ensures.steps c.run_silent-made.ensures.stays c.pass.ensures in
    let told = c.in-Some.ensures.some in
    let replied = answer_leads (saved_locals (g.P.Constants.units c.args.self.now.program.now) c.args.self.now.thread c.args.self.now.frames) g.H.OpHost.passes g.H.OpHost.answers (state_over (g.P.Constants.units c.run_silent-made.new.self.program.now) c.run_silent-made.new.self.thread c.run_silent-made.new.self.frames c.run_silent-made.new.self.texts c.run_silent-made.new.self.text) (state_over (g.P.Constants.units c.reply.new.self.program.now) c.reply.new.self.thread c.reply.new.self.frames c.reply.new.self.texts c.reply.new.self.text) c.pass.new.self c.ask.new.self c.in-Want.op c.in-Some.reply
    (sym c.next.ensures ∙ c.in-Want.is) told.0 told.1 c.reply.ensures.state in
    let further = leads_on (saved_locals (g.P.Constants.units c.args.self.now.program.now) c.args.self.now.thread c.args.self.now.frames) g.H.OpHost.passes g.H.OpHost.answers (state_over (g.P.Constants.units c.args.self.now.program.now) c.args.self.now.thread c.args.self.now.frames c.args.self.now.texts c.args.self.now.text) (state_over (g.P.Constants.units c.run_silent-made.new.self.program.now) c.run_silent-made.new.self.thread c.run_silent-made.new.self.frames c.run_silent-made.new.self.texts c.run_silent-made.new.self.text) (state_over (g.P.Constants.units c.reply.new.self.program.now) c.reply.new.self.thread c.reply.new.self.frames c.reply.new.self.texts c.reply.new.self.text) c.args.host.now c.pass.new.self c.ask.new.self way replied in
    let same = c.reply.ensures.saved ∙ c.run_silent-made.ensures.saved in
    led_on (saved_locals (g.P.Constants.units c.args.self.now.program.now) c.args.self.now.thread c.args.self.now.frames) g.H.OpHost.passes g.H.OpHost.answers g.H.OpHost.declines (state_over (g.P.Constants.units c.args.self.now.program.now) c.args.self.now.thread c.args.self.now.frames c.args.self.now.texts c.args.self.now.text) (state_over (g.P.Constants.units c.reply.new.self.program.now) c.reply.new.self.thread c.reply.new.self.frames c.reply.new.self.texts c.reply.new.self.text) (state_over (g.P.Constants.units c.go_on_answered.new.self.program.now) c.go_on_answered.new.self.thread c.go_on_answered.new.self.frames c.go_on_answered.new.self.texts c.go_on_answered.new.self.text) c.args.host.now c.ask.new.self c.go_on_answered.new.host further
    (led_over (saved_locals (g.P.Constants.units c.args.self.now.program.now) c.args.self.now.thread c.args.self.now.frames) g.H.OpHost.passes g.H.OpHost.answers g.H.OpHost.declines (saved_locals (g.P.Constants.units c.reply.new.self.program.now) c.reply.new.self.thread c.reply.new.self.frames) (state_over (g.P.Constants.units c.reply.new.self.program.now) c.reply.new.self.thread c.reply.new.self.frames c.reply.new.self.texts c.reply.new.self.text) (state_over (g.P.Constants.units c.go_on_answered.new.self.program.now) c.go_on_answered.new.self.thread c.go_on_answered.new.self.frames c.go_on_answered.new.self.texts c.go_on_answered.new.self.text) c.ask.new.self c.go_on_answered.new.host same c.go_on_answered.ensures.led)

pub returns-in-Some-clause-on : goal.returns-in-Some-clause-on
returns-in-Some-clause-on g c is =
    let way = stretch_leads (saved_locals (g.P.Constants.units c.args.self.now.program.now) c.args.self.now.thread c.args.self.now.frames) g.H.OpHost.passes g.H.OpHost.answers c.run_silent-made.result (state_over (g.P.Constants.units c.args.self.now.program.now) c.args.self.now.thread c.args.self.now.frames c.args.self.now.texts c.args.self.now.text) (state_over (g.P.Constants.units c.run_silent-made.new.self.program.now) c.run_silent-made.new.self.thread c.run_silent-made.new.self.frames c.run_silent-made.new.self.texts c.run_silent-made.new.self.text) c.args.host.now c.pass.new.self
    c.run_silent-made.ensures.steps c.run_silent-made.ensures.stays c.pass.ensures in
    let told = c.in-Some.ensures.some in
    let replied = answer_leads (saved_locals (g.P.Constants.units c.args.self.now.program.now) c.args.self.now.thread c.args.self.now.frames) g.H.OpHost.passes g.H.OpHost.answers (state_over (g.P.Constants.units c.run_silent-made.new.self.program.now) c.run_silent-made.new.self.thread c.run_silent-made.new.self.frames c.run_silent-made.new.self.texts c.run_silent-made.new.self.text) (state_over (g.P.Constants.units c.reply.new.self.program.now) c.reply.new.self.thread c.reply.new.self.frames c.reply.new.self.texts c.reply.new.self.text) c.pass.new.self c.ask.new.self c.in-Want.op c.in-Some.reply
    (sym c.next.ensures ∙ c.in-Want.is) told.0 told.1 c.reply.ensures.state in
    let further = leads_on (saved_locals (g.P.Constants.units c.args.self.now.program.now) c.args.self.now.thread c.args.self.now.frames) g.H.OpHost.passes g.H.OpHost.answers (state_over (g.P.Constants.units c.args.self.now.program.now) c.args.self.now.thread c.args.self.now.frames c.args.self.now.texts c.args.self.now.text) (state_over (g.P.Constants.units c.run_silent-made.new.self.program.now) c.run_silent-made.new.self.thread c.run_silent-made.new.self.frames c.run_silent-made.new.self.texts c.run_silent-made.new.self.text) (state_over (g.P.Constants.units c.reply.new.self.program.now) c.reply.new.self.thread c.reply.new.self.frames c.reply.new.self.texts c.reply.new.self.text) c.args.host.now c.pass.new.self c.ask.new.self way replied in
    let same = c.reply.ensures.saved ∙ c.run_silent-made.ensures.saved in
    leads_on (saved_locals (g.P.Constants.units c.args.self.now.program.now) c.args.self.now.thread c.args.self.now.frames) g.H.OpHost.passes g.H.OpHost.answers (state_over (g.P.Constants.units c.args.self.now.program.now) c.args.self.now.thread c.args.self.now.frames c.args.self.now.texts c.args.self.now.text) (state_over (g.P.Constants.units c.reply.new.self.program.now) c.reply.new.self.thread c.reply.new.self.frames c.reply.new.self.texts c.reply.new.self.text) (state_over (g.P.Constants.units c.go_on_answered.new.self.program.now) c.go_on_answered.new.self.thread c.go_on_answered.new.self.frames c.go_on_answered.new.self.texts c.go_on_answered.new.self.text) c.args.host.now c.ask.new.self c.go_on_answered.new.host further
    (leads_over (saved_locals (g.P.Constants.units c.args.self.now.program.now) c.args.self.now.thread c.args.self.now.frames) g.H.OpHost.passes g.H.OpHost.answers (saved_locals (g.P.Constants.units c.reply.new.self.program.now) c.reply.new.self.thread c.reply.new.self.frames) (state_over (g.P.Constants.units c.reply.new.self.program.now) c.reply.new.self.thread c.reply.new.self.frames c.reply.new.self.texts c.reply.new.self.text) (state_over (g.P.Constants.units c.go_on_answered.new.self.program.now) c.go_on_answered.new.self.thread c.go_on_answered.new.self.frames c.go_on_answered.new.self.texts c.go_on_answered.new.self.text) c.ask.new.self c.go_on_answered.new.host same (c.go_on_answered.ensures.on is))

pub returns-in-None-clause-led : goal.returns-in-None-clause-led
returns-in-None-clause-led g c =
    let way = stretch_leads (saved_locals (g.P.Constants.units c.args.self.now.program.now) c.args.self.now.thread c.args.self.now.frames) g.H.OpHost.passes g.H.OpHost.answers c.run_silent-made.result (state_over (g.P.Constants.units c.args.self.now.program.now) c.args.self.now.thread c.args.self.now.frames c.args.self.now.texts c.args.self.now.text) (state_over (g.P.Constants.units c.run_silent-made.new.self.program.now) c.run_silent-made.new.self.thread c.run_silent-made.new.self.frames c.run_silent-made.new.self.texts c.run_silent-made.new.self.text) c.args.host.now c.pass.new.self
    c.run_silent-made.ensures.steps c.run_silent-made.ensures.stays c.pass.ensures in
    (way.0, c.pass.new.self, way.1, inr (c.in-Want.op, sym c.next.ensures ∙ c.in-Want.is, c.in-None.ensures.none))

pub returns-in-Silent-clause-led : goal.returns-in-Silent-clause-led
returns-in-Silent-clause-led g c =
    let way = stretch_leads (saved_locals (g.P.Constants.units c.args.self.now.program.now) c.args.self.now.thread c.args.self.now.frames) g.H.OpHost.passes g.H.OpHost.answers c.run_silent-made.result (state_over (g.P.Constants.units c.args.self.now.program.now) c.args.self.now.thread c.args.self.now.frames c.args.self.now.texts c.args.self.now.text) (state_over (g.P.Constants.units c.run_silent-made.new.self.program.now) c.run_silent-made.new.self.thread c.run_silent-made.new.self.frames c.run_silent-made.new.self.texts c.run_silent-made.new.self.text) c.args.host.now c.pass.new.self
    c.run_silent-made.ensures.steps c.run_silent-made.ensures.stays c.pass.ensures in
    let further = leads_on (saved_locals (g.P.Constants.units c.args.self.now.program.now) c.args.self.now.thread c.args.self.now.frames) g.H.OpHost.passes g.H.OpHost.answers (state_over (g.P.Constants.units c.args.self.now.program.now) c.args.self.now.thread c.args.self.now.frames c.args.self.now.texts c.args.self.now.text) (state_over (g.P.Constants.units c.run_silent-made.new.self.program.now) c.run_silent-made.new.self.thread c.run_silent-made.new.self.frames c.run_silent-made.new.self.texts c.run_silent-made.new.self.text) (state_over (g.P.Constants.units c.pass_silent.new.self.program.now) c.pass_silent.new.self.thread c.pass_silent.new.self.frames c.pass_silent.new.self.texts c.pass_silent.new.self.text) c.args.host.now c.pass.new.self c.pass_silent.new.host way
    (leads_over (saved_locals (g.P.Constants.units c.args.self.now.program.now) c.args.self.now.thread c.args.self.now.frames) g.H.OpHost.passes g.H.OpHost.answers (saved_locals (g.P.Constants.units c.run_silent-made.new.self.program.now) c.run_silent-made.new.self.thread c.run_silent-made.new.self.frames) (state_over (g.P.Constants.units c.run_silent-made.new.self.program.now) c.run_silent-made.new.self.thread c.run_silent-made.new.self.frames c.run_silent-made.new.self.texts c.run_silent-made.new.self.text) (state_over (g.P.Constants.units c.pass_silent.new.self.program.now) c.pass_silent.new.self.thread c.pass_silent.new.self.frames c.pass_silent.new.self.texts c.pass_silent.new.self.text) c.pass.new.self c.pass_silent.new.host c.run_silent-made.ensures.saved c.pass_silent.ensures.led) in
    led_there (saved_locals (g.P.Constants.units c.args.self.now.program.now) c.args.self.now.thread c.args.self.now.frames) g.H.OpHost.passes g.H.OpHost.answers g.H.OpHost.declines (state_over (g.P.Constants.units c.args.self.now.program.now) c.args.self.now.thread c.args.self.now.frames c.args.self.now.texts c.args.self.now.text) (state_over (g.P.Constants.units c.pass_silent.new.self.program.now) c.pass_silent.new.self.thread c.pass_silent.new.self.frames c.pass_silent.new.self.texts c.pass_silent.new.self.text) c.args.host.now c.pass_silent.new.host further

pub returns-in-Silent-clause-on : goal.returns-in-Silent-clause-on
returns-in-Silent-clause-on g c is =
    let way = stretch_leads (saved_locals (g.P.Constants.units c.args.self.now.program.now) c.args.self.now.thread c.args.self.now.frames) g.H.OpHost.passes g.H.OpHost.answers c.run_silent-made.result (state_over (g.P.Constants.units c.args.self.now.program.now) c.args.self.now.thread c.args.self.now.frames c.args.self.now.texts c.args.self.now.text) (state_over (g.P.Constants.units c.run_silent-made.new.self.program.now) c.run_silent-made.new.self.thread c.run_silent-made.new.self.frames c.run_silent-made.new.self.texts c.run_silent-made.new.self.text) c.args.host.now c.pass.new.self
    c.run_silent-made.ensures.steps c.run_silent-made.ensures.stays c.pass.ensures in
    let further = leads_on (saved_locals (g.P.Constants.units c.args.self.now.program.now) c.args.self.now.thread c.args.self.now.frames) g.H.OpHost.passes g.H.OpHost.answers (state_over (g.P.Constants.units c.args.self.now.program.now) c.args.self.now.thread c.args.self.now.frames c.args.self.now.texts c.args.self.now.text) (state_over (g.P.Constants.units c.run_silent-made.new.self.program.now) c.run_silent-made.new.self.thread c.run_silent-made.new.self.frames c.run_silent-made.new.self.texts c.run_silent-made.new.self.text) (state_over (g.P.Constants.units c.pass_silent.new.self.program.now) c.pass_silent.new.self.thread c.pass_silent.new.self.frames c.pass_silent.new.self.texts c.pass_silent.new.self.text) c.args.host.now c.pass.new.self c.pass_silent.new.host way
    (leads_over (saved_locals (g.P.Constants.units c.args.self.now.program.now) c.args.self.now.thread c.args.self.now.frames) g.H.OpHost.passes g.H.OpHost.answers (saved_locals (g.P.Constants.units c.run_silent-made.new.self.program.now) c.run_silent-made.new.self.thread c.run_silent-made.new.self.frames) (state_over (g.P.Constants.units c.run_silent-made.new.self.program.now) c.run_silent-made.new.self.thread c.run_silent-made.new.self.frames c.run_silent-made.new.self.texts c.run_silent-made.new.self.text) (state_over (g.P.Constants.units c.pass_silent.new.self.program.now) c.pass_silent.new.self.thread c.pass_silent.new.self.frames c.pass_silent.new.self.texts c.pass_silent.new.self.text) c.pass.new.self c.pass_silent.new.host c.run_silent-made.ensures.saved c.pass_silent.ensures.led) in
    further

pub returns-in-Ended-clause-led : goal.returns-in-Ended-clause-led
returns-in-Ended-clause-led g c =
    let way = stretch_leads (saved_locals (g.P.Constants.units c.args.self.now.program.now) c.args.self.now.thread c.args.self.now.frames) g.H.OpHost.passes g.H.OpHost.answers c.run_silent-made.result (state_over (g.P.Constants.units c.args.self.now.program.now) c.args.self.now.thread c.args.self.now.frames c.args.self.now.texts c.args.self.now.text) (state_over (g.P.Constants.units c.run_silent-made.new.self.program.now) c.run_silent-made.new.self.thread c.run_silent-made.new.self.frames c.run_silent-made.new.self.texts c.run_silent-made.new.self.text) c.args.host.now c.pass.new.self
    c.run_silent-made.ensures.steps c.run_silent-made.ensures.stays c.pass.ensures in
    led_there (saved_locals (g.P.Constants.units c.args.self.now.program.now) c.args.self.now.thread c.args.self.now.frames) g.H.OpHost.passes g.H.OpHost.answers g.H.OpHost.declines (state_over (g.P.Constants.units c.args.self.now.program.now) c.args.self.now.thread c.args.self.now.frames c.args.self.now.texts c.args.self.now.text) (state_over (g.P.Constants.units c.run_silent-made.new.self.program.now) c.run_silent-made.new.self.thread c.run_silent-made.new.self.frames c.run_silent-made.new.self.texts c.run_silent-made.new.self.text) c.args.host.now c.pass.new.self way
