use Rattle.std.proofs.lemmas.Result.{err_from_is_err_and}
use Rattle.class_walk.specs.Reading.{attribute_at}
use Rattle.class_walk.proofs.Loop.{goes_on, ends, is_done}
use Rattle.class_walk.proofs.members.counted_attributes.Goals as goal

pub returns-in_err-attribute : goal.returns-in_err-attribute
returns-in_err-attribute c =
    let p = err_from_is_err_and c.from_residual.result c.from_residual.ensures.1 in
    rw (p.1, p.2) (ends c.in_err-attribute.field-0.0 attribute_at c.loop.attributes c.args.count c.loop.counter c.loop.cursor _ c.loop-test.true c.in_err-attribute.ensures c.loop.invariant)

pub loop-preserved : goal.loop-preserved
loop-preserved c =
    rw c.in_ok-push.ensures.ok (goes_on attribute_at c.loop.attributes c.args.count c.loop.counter c.loop.cursor c.in_ok-attribute.attribute c.attribute.new.cursor _ c.loop-test.true c.in_ok-attribute.ensures c.loop.invariant)

pub returns : goal.returns
returns c = is_done attribute_at c.loop.attributes c.args.count c.loop.counter c.loop.cursor _ c.loop-test.false c.loop.invariant
