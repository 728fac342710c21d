use Rattle.std.proofs.Common.{◌≤◌}
use Rattle.interp_local.specs.Runs.{IsLocalRun}
use Rattle.interp_local.proofs.run.run_local.Given as goal

abbrev pub invariant-loop-stretch : goal.invariant-loop-stretch
invariant-loop-stretch g l = record {
  run : IsLocalRun (g.P.Constants.units l.program) l.steps l.made l.initial.frames l.frames;
  most : l.made ≤ l.most;
  more : l._stretch ≤ l.made;
}
