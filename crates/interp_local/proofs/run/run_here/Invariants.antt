use Rattle.interp_local.specs.Runs.{IsLocalRun}
use Rattle.interp_local.proofs.run.run_here.Given as goal

abbrev pub invariant-loop-made : goal.invariant-loop-made
invariant-loop-made g l = IsLocalRun (g.P.Constants.units l.program) l.steps l.made l.initial.frames l.frames
