use Rattle.std.proofs.Common.{rules, w64, get_or}
use Rattle.std.specs.Prelude.{pos, FitsSigned}
use Rattle.std.proofs.lemmas.Int.{to_z-of_z}
use Rattle.code_steps.specs.Targets.{target_of}
use Rattle.code_steps.proofs.TargetLoop.{all_more, all_end, all_done}
use Rattle.code_steps.proofs.targets.targets.Goals as goal

pub returns-in-None : goal.returns-in-None
returns-in-None c =
    let x = get_or c.args.from.now c.loop-to.to-index (pos 0) in
    let fits : FitsSigned w64 x = search rules in
    all_end (target_of c.args.offsets.now) c.args.from.now c.loop-to.targets c.loop-to.to-index (pos 0) c.loop-to-test.true (rw (to_z-of_z w64 x fits) at c.in-None.ensures) c.loop-to.invariant

pub loop-to-preserved : goal.loop-to-preserved
loop-to-preserved c =
    let x = get_or c.args.from.now c.loop-to.to-index (pos 0) in
    let fits : FitsSigned w64 x = search rules in
    rw c.in_ok-push-in-Some.ensures.ok
    (all_more (target_of c.args.offsets.now) c.args.from.now c.loop-to.targets c.loop-to.to-index (pos 0) c.in-Some.target c.loop-to-test.true (rw (to_z-of_z w64 x fits) at c.in-Some.ensures) c.loop-to.invariant)

pub returns : goal.returns
returns c = all_done (target_of c.args.offsets.now) c.args.from.now c.loop-to.targets c.loop-to.to-index c.loop-to-test.false c.loop-to.invariant
