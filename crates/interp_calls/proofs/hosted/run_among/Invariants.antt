use Rattle.interp_calls.specs.Hosted.{HostedTo, StaysBegun}
use Rattle.interp_calls.specs.Local.{local_of, saved_locals}
use Rattle.interp_calls.proofs.hosted.run_among.Given as goal

abbrev pub invariant-loop-asked : goal.invariant-loop-asked
invariant-loop-asked g l = record {
  led : HostedTo (saved_locals (g.P.Constants.units l.program) l.thread l.initial.frames) g.H.OpHost.passes g.H.OpHost.answers
      (local_of (g.P.Constants.units l.program) l.thread l.initial.frames) l.initial.host (local_of (g.P.Constants.units l.program) l.thread l.frames) l.host;
  stays : StaysBegun l.initial.frames l.frames;
}
