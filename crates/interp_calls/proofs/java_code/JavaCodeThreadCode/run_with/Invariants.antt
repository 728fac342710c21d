use Rattle.std.proofs.Common.{◌≡◌}
use Rattle.interp_calls.specs.Hosted.{HostedTo}
use Rattle.interp_calls.specs.Local.{saved_locals, state_over}
use Rattle.interp_calls.proofs.java_code.JavaCodeThreadCode.run_with.Given as goal

abbrev pub invariant-loop-asked : goal.invariant-loop-asked
invariant-loop-asked g l = record {
  led : HostedTo (saved_locals (g.P.Constants.units l.initial.self.program.now) l.initial.self.thread l.initial.self.frames) g.H.OpHost.passes g.H.OpHost.answers
      (state_over (g.P.Constants.units l.initial.self.program.now) l.initial.self.thread l.initial.self.frames l.initial.self.texts l.initial.self.text) l.initial.host
      (state_over (g.P.Constants.units l.self.program.now) l.self.thread l.self.frames l.self.texts l.self.text) l.host;
  saves : saved_locals (g.P.Constants.units l.self.program.now) l.self.thread l.self.frames
      ≡ saved_locals (g.P.Constants.units l.initial.self.program.now) l.initial.self.thread l.initial.self.frames;
}
