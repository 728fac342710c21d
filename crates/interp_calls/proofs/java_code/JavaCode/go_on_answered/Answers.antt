use Rattle.std.proofs.Common.{rules, ◌≡◌, subst}
use Rattle.frame_snapshot.specs.declared.stage.FrameStage.TheVariants.{Begun}
use Rattle.op_core.specs.Hosted.{MayBeAsked}
use Rattle.java_rows.specs.Thread.{java_code}
use Rattle.interp_calls.specs.Local.{saved_locals}
use Rattle.interp_calls.proofs.TextLemmas.{begun_none, outside_is}
use Rattle.interp_calls.proofs.java_code.JavaCode.go_on_answered.Goals as goal

pub run_answered-requires-clause-may : goal.run_answered-requires-clause-may
run_answered-requires-clause-may g c =
    let self = c.args.self.now in
    let us = g.P.Constants.units self.program.now in
    let begun : self.frames.here.stage ≡ Begun = search rules in
    subst (λ x. MayBeAsked java_code (saved_locals us self.thread self.frames) g.H.OpHost.passes g.H.OpHost.answers g.H.OpHost.may x c.args.host.now)
    (outside_is us self.thread self.frames self.texts self.text (begun_none self.text self.frames.here.stage self.stands begun)) c.requires.may
