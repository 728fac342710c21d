use Rattle.std.proofs.Common.{◌≡◌, drop}
use Rattle.code_steps.specs.Targets.{steps_of}
use Rattle.code_steps.proofs.TargetLoop.{with_steps}
use Rattle.code_steps.proofs.targets.steps.Given as goal

abbrev pub invariant-loop-each : goal.invariant-loop-each
invariant-loop-each l = with_steps l.steps (steps_of l.offsets (drop l.each-index l.from)) ≡ steps_of l.offsets l.from
