use Rattle.std.proofs.lemmas.Result.{err_from_is_err_and}
use Rattle.code_frames.proofs.Loop.{goes_on, ends, fails, is_done}
use Rattle.code_frames.proofs.item.items.Goals as goal

pub returns-in_err-item : goal.returns-in_err-item
returns-in_err-item c =
    let p = err_from_is_err_and c.from_residual.result c.from_residual.ensures.1 in
    rw (p.1, p.2) (ends c.in_err-item.field-0.0 c.args.pool.now c.args.steps.now c.loop.items c.args.count c.loop.counter c.loop.cursor _ c.loop-test.true (fails c.in_err-item.field-0.0 _ c.in_err-item.ensures) c.loop.invariant)

pub loop-preserved : goal.loop-preserved
loop-preserved c =
    rw c.in_ok-push.ensures.ok (goes_on c.args.pool.now c.args.steps.now c.loop.items c.args.count c.loop.counter c.loop.cursor c.in_ok-item.item c.item.new.cursor _ c.loop-test.true c.in_ok-item.ensures c.loop.invariant)

pub returns : goal.returns
returns c = is_done c.args.pool.now c.args.steps.now c.loop.items c.args.count c.loop.counter c.loop.cursor _ c.loop-test.false c.loop.invariant
