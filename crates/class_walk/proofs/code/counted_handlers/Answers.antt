use Rattle.std.proofs.lemmas.Result.{err_from_is_err_and}
use Rattle.class_walk.specs.Reading.{handler_at}
use Rattle.class_walk.proofs.Loop.{goes_on, fails, ends, is_done}
use Rattle.class_walk.proofs.code.counted_handlers.Goals as goal

pub returns-in_err-handler : goal.returns-in_err-handler
returns-in_err-handler c =
    let p = err_from_is_err_and c.from_residual.result c.from_residual.ensures.1 in
    rw (p.1, p.2) (ends c.in_err-handler.field-0.0 handler_at c.loop.handlers c.args.count c.loop.counter c.loop.cursor _ c.loop-test.true (fails c.in_err-handler.field-0.0 (handler_at c.loop.cursor) c.in_err-handler.ensures) c.loop.invariant)

pub loop-preserved : goal.loop-preserved
loop-preserved c =
    rw c.in_ok-push.ensures.ok (goes_on handler_at c.loop.handlers c.args.count c.loop.counter c.loop.cursor c.in_ok-handler.handler c.handler.new.cursor _ c.loop-test.true c.in_ok-handler.ensures c.loop.invariant)

pub returns : goal.returns
returns c = is_done handler_at c.loop.handlers c.args.count c.loop.counter c.loop.cursor _ c.loop-test.false c.loop.invariant
