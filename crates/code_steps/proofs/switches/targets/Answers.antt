use Rattle.std.proofs.Common.{rules, w64}
use Rattle.std.proofs.lemmas.Int.{to_z-of_z}
use Rattle.std.specs.Prelude.{FitsSigned}
use Rattle.std.proofs.lemmas.Result.{err_from_is_err_and}
use Rattle.code_steps.specs.Reading.{target_at}
use Rattle.class_walk.proofs.Loop.{goes_on, is_done}
use Rattle.code_steps.proofs.Loop.{ends, fails}
use Rattle.code_steps.proofs.switches.targets.Goals as goal

pub returns-in_err-target : goal.returns-in_err-target
returns-in_err-target c =
    let p = err_from_is_err_and c.from_residual.result c.from_residual.ensures.1 in
    rw (p.1, p.2) (ends c.in_err-target.field-0.0 (target_at c.args.at) c.loop.targets c.args.count c.loop.counter c.loop.cursor _ c.loop-test.true (fails c.in_err-target.field-0.0 _ c.in_err-target.ensures) c.loop.invariant)

pub loop-preserved : goal.loop-preserved
loop-preserved c =
    let fits : FitsSigned w64 c.in_ok-target.target = search rules in
    rw (c.in_ok-push.ensures.ok, to_z-of_z w64 c.in_ok-target.target fits) (goes_on (target_at c.args.at) c.loop.targets c.args.count c.loop.counter c.loop.cursor c.in_ok-target.target c.target.new.self _ c.loop-test.true c.in_ok-target.ensures c.loop.invariant)

pub returns : goal.returns
returns c = is_done (target_at c.args.at) c.loop.targets c.args.count c.loop.counter c.loop.cursor _ c.loop-test.false c.loop.invariant
