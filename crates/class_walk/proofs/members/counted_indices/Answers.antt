use Rattle.std.proofs.lemmas.Result.{err_from_is_err_and}
use Rattle.class_walk.specs.Reading.{number_at}
use Rattle.class_walk.proofs.Loop.{goes_on, fails, ends, is_done}
use Rattle.class_walk.proofs.members.counted_indices.Goals as goal

pub returns-in_err-index : goal.returns-in_err-index
returns-in_err-index c =
    let p = err_from_is_err_and c.from_residual.result c.from_residual.ensures.1 in
    rw (p.1, p.2) (ends c.in_err-index.field-0.0 (number_at 2) c.loop.indices c.args.count c.loop.counter c.loop.cursor _ c.loop-test.true (fails c.in_err-index.field-0.0 (number_at 2 c.loop.cursor) c.in_err-index.ensures) c.loop.invariant)

pub loop-preserved : goal.loop-preserved
loop-preserved c =
    rw c.in_ok-push.ensures.ok (goes_on (number_at 2) c.loop.indices c.args.count c.loop.counter c.loop.cursor c.in_ok-index.index c.u16.new.self _ c.loop-test.true c.in_ok-index.ensures c.loop.invariant)

pub returns : goal.returns
returns c = is_done (number_at 2) c.loop.indices c.args.count c.loop.counter c.loop.cursor _ c.loop-test.false c.loop.invariant
