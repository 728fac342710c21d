use Rattle.std.proofs.lemmas.Result.{err_from_is_err_and}
use Rattle.class_walk.specs.Reading.{member_at}
use Rattle.class_walk.proofs.Loop.{goes_on, ends, is_done}
use Rattle.class_walk.proofs.members.counted_members.Goals as goal

pub returns-in_err-member : goal.returns-in_err-member
returns-in_err-member c =
    let p = err_from_is_err_and c.from_residual.result c.from_residual.ensures.1 in
    rw (p.1, p.2) (ends c.in_err-member.field-0.0 member_at c.loop.members c.args.count c.loop.counter c.loop.cursor _ c.loop-test.true c.in_err-member.ensures c.loop.invariant)

pub loop-preserved : goal.loop-preserved
loop-preserved c =
    rw c.in_ok-push.ensures.ok (goes_on member_at c.loop.members c.args.count c.loop.counter c.loop.cursor c.in_ok-member.member c.member.new.cursor _ c.loop-test.true c.in_ok-member.ensures c.loop.invariant)

pub returns : goal.returns
returns c = is_done member_at c.loop.members c.args.count c.loop.counter c.loop.cursor _ c.loop-test.false c.loop.invariant
