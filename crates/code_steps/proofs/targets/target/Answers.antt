use Rattle.std.proofs.Common.{sym, w64}
use Rattle.std.proofs.lemmas.Int.{to_z-of_z}
use Rattle.code_steps.proofs.TargetLoop.{target_past, target_found}
use Rattle.code_steps.proofs.targets.target.Goals as goal

pub returns-in_default : goal.returns-in_default
returns-in_default c = sym (target_past c.args.offsets.now c.args.to c.requires (rw (to_z-of_z w64 c.args.to c.ranges.to) at c.in_default.ensures))

pub returns : goal.returns
returns c =
    let h = rw (to_z-of_z w64 c.args.to c.ranges.to) at c.in-Ok.ensures in
    target_found c.args.offsets.now c.args.to c.in-Ok.at c.in_ok-step.step h.0 h.1 c.in_ok-step.ensures
