use Rattle.std.proofs.lemmas.Result.{err_from_is_err_and}
use Rattle.class_walk.proofs.Loop.{slots_go_on, slots_end, slots_done}
use Rattle.class_walk.proofs.pool.slots.Goals as goal

pub returns-in_err-slot : goal.returns-in_err-slot
returns-in_err-slot c =
    let p = err_from_is_err_and c.from_residual.result c.from_residual.ensures.1 in
    rw (p.1, p.2) (slots_end c.in_err-slot.field-0.0 c.args.count c.args.cursor.now c.loop-index.slots c.loop-index.due c.loop-index.index c.loop-index.cursor c.loop-index-test.true c.in_err-slot.ensures c.loop-index.invariant)

pub loop-index-preserved : goal.loop-index-preserved
loop-index-preserved c =
    rw (c.in_ok-push.ensures.ok, c.is_wide-due.ensures) (slots_go_on c.args.count c.args.cursor.now c.loop-index.slots c.loop-index.due c.loop-index.index c.loop-index.cursor c.in_ok-slot.slot c.slot.new.cursor c.loop-index-test.true c.in_ok-slot.ensures c.loop-index.invariant)

pub returns : goal.returns
returns c = slots_done c.args.count c.args.cursor.now c.loop-index.slots c.loop-index.due c.loop-index.index c.loop-index.cursor c.loop-index-test.false c.loop-index.invariant
