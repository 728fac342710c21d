use Rattle.std.proofs.Common.{refl, sym, ◌∙◌, subst, inl, inr}
use Rattle.op_core.specs.Hosted.{Lead}
use Rattle.op_core.proofs.HostedLemmas.{and_stretch, and_answer}
use Rattle.op_core.proofs.thread_code.ThreadCode.run_with.Goals as goal

pub returns-in_default : goal.returns-in_default
returns-in_default g c =
    let way = and_stretch g.Self.ThreadCode.code (g.Self.ThreadCode.saved c.args.self.now) (g.Self.ThreadCode.saved c.loop-asked.self) g.H.OpHost.passes g.H.OpHost.answers
    (g.Self.ThreadCode.state c.args.self.now) c.args.host.now (g.Self.ThreadCode.state c.loop-asked.self) c.loop-asked.host
    c.run_silent-made.result (g.Self.ThreadCode.state c.run_silent-made.new.self) c.pass.new.self
    c.loop-asked.invariant.saves c.loop-asked.invariant.led c.run_silent-made.ensures.steps c.run_silent-made.ensures.stays c.pass.ensures in
    record {
      led = (way.0, c.pass.new.self, way.1, inl refl);
      saved = c.run_silent-made.ensures.saved ∙ c.loop-asked.invariant.saves;
    }

pub ask-requires : goal.ask-requires
ask-requires g c =
    let way = and_stretch g.Self.ThreadCode.code (g.Self.ThreadCode.saved c.args.self.now) (g.Self.ThreadCode.saved c.loop-asked.self) g.H.OpHost.passes g.H.OpHost.answers
    (g.Self.ThreadCode.state c.args.self.now) c.args.host.now (g.Self.ThreadCode.state c.loop-asked.self) c.loop-asked.host
    c.run_silent-made.result (g.Self.ThreadCode.state c.run_silent-made.new.self) c.pass.new.self
    c.loop-asked.invariant.saves c.loop-asked.invariant.led c.run_silent-made.ensures.steps c.run_silent-made.ensures.stays c.pass.ensures in
    c.requires.may way.0 (g.Self.ThreadCode.state c.run_silent-made.new.self) c.pass.new.self way.1 c.in-Want.op (sym c.next.ensures ∙ c.in-Want.is)

pub returns-in-None-clause-led : goal.returns-in-None-clause-led
returns-in-None-clause-led g c =
    let way = and_stretch g.Self.ThreadCode.code (g.Self.ThreadCode.saved c.args.self.now) (g.Self.ThreadCode.saved c.loop-asked.self) g.H.OpHost.passes g.H.OpHost.answers
    (g.Self.ThreadCode.state c.args.self.now) c.args.host.now (g.Self.ThreadCode.state c.loop-asked.self) c.loop-asked.host
    c.run_silent-made.result (g.Self.ThreadCode.state c.run_silent-made.new.self) c.pass.new.self
    c.loop-asked.invariant.saves c.loop-asked.invariant.led c.run_silent-made.ensures.steps c.run_silent-made.ensures.stays c.pass.ensures in
    (way.0, c.pass.new.self, way.1, inr (c.in-Want.op, sym c.next.ensures ∙ c.in-Want.is, c.in-None.ensures.none))

pub loop-asked-preserved : goal.loop-asked-preserved
loop-asked-preserved g c =
    let way = and_stretch g.Self.ThreadCode.code (g.Self.ThreadCode.saved c.args.self.now) (g.Self.ThreadCode.saved c.loop-asked.self) g.H.OpHost.passes g.H.OpHost.answers
    (g.Self.ThreadCode.state c.args.self.now) c.args.host.now (g.Self.ThreadCode.state c.loop-asked.self) c.loop-asked.host
    c.run_silent-made.result (g.Self.ThreadCode.state c.run_silent-made.new.self) c.pass.new.self
    c.loop-asked.invariant.saves c.loop-asked.invariant.led c.run_silent-made.ensures.steps c.run_silent-made.ensures.stays c.pass.ensures in
    let told = c.in-Some.ensures.some in
    let on = and_answer g.Self.ThreadCode.code (g.Self.ThreadCode.saved c.args.self.now) g.H.OpHost.passes g.H.OpHost.answers
    (g.Self.ThreadCode.state c.args.self.now) c.args.host.now (g.Self.ThreadCode.state c.run_silent-made.new.self) c.pass.new.self
    c.in-Want.op c.in-Some.reply c.ask.new.self way (sym c.next.ensures ∙ c.in-Want.is) told.0 told.1 in
    record {
      led = (
        on.0,
        subst (λ x. Lead g.Self.ThreadCode.code (g.Self.ThreadCode.saved c.args.self.now) g.H.OpHost.passes g.H.OpHost.answers
            (g.Self.ThreadCode.state c.args.self.now) c.args.host.now on.0 x c.ask.new.self) (sym c.reply.ensures.state) on.1,
      );
      saves = c.reply.ensures.saved ∙ c.run_silent-made.ensures.saved ∙ c.loop-asked.invariant.saves;
    }
