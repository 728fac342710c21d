use Rattle.std.proofs.Common.{◌≡◌, drop}
use Rattle.code_steps.specs.Targets.{target_of, all_of}
use Rattle.code_steps.proofs.TargetLoop.{with_found}
use Rattle.code_steps.proofs.targets.targets.Given as goal

abbrev pub invariant-loop-to : goal.invariant-loop-to
invariant-loop-to l = with_found l.targets (all_of (target_of l.offsets) (drop l.to-index l.from)) ≡ all_of (target_of l.offsets) l.from
