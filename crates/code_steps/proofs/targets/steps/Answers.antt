use Rattle.std.proofs.lemmas.Result.{err_from_is_err_and}
use Rattle.code_steps.proofs.TargetLoop.{steps_more, steps_end, steps_done}
use Rattle.code_steps.proofs.targets.steps.Goals as goal

pub returns-in_err-step : goal.returns-in_err-step
returns-in_err-step c =
    let p = err_from_is_err_and c.from_residual.result c.from_residual.ensures.1 in
    rw (p.1, p.2) (steps_end c.in_err-step.field-0.0 c.args.offsets.now c.args.from.now c.loop-each.steps c.loop-each.each-index c.each-item.result c.loop-each-test.true c.each-item.is c.in_err-step.ensures c.loop-each.invariant)

pub loop-each-preserved : goal.loop-each-preserved
loop-each-preserved c =
    rw c.in_ok-push.ensures.ok
    (steps_more c.args.offsets.now c.args.from.now c.loop-each.steps c.loop-each.each-index c.each-item.result c.in_ok-step.step c.loop-each-test.true c.each-item.is c.in_ok-step.ensures c.loop-each.invariant)

pub returns : goal.returns
returns c = steps_done c.args.offsets.now c.args.from.now c.loop-each.steps c.loop-each.each-index c.loop-each-test.false c.loop-each.invariant
