use Rattle.std.proofs.Common.{◌≡◌, drop}
use Rattle.code_steps.specs.Targets.{target_of, case_of, all_of}
use Rattle.code_steps.proofs.TargetLoop.{with_found}
use Rattle.code_steps.proofs.targets.cases.Given as goal

abbrev pub invariant-loop-each : goal.invariant-loop-each
invariant-loop-each l = with_found l.cases (all_of (case_of (target_of l.offsets)) (drop l.each-index l.from)) ≡ all_of (case_of (target_of l.offsets)) l.from
