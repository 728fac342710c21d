use Rattle.std.proofs.lemmas.Result.{err_from_is_err_and}
use Rattle.assembler_bodies.specs.Marks.{marks_of}
use Rattle.assembler_bodies.specs.Offsets.{offset_of}
use Rattle.assembler_bodies.proofs.EachLaws.{each_on, each_fails, each_done}
use Rattle.assembler_bodies.proofs.offsets.offsets_of.Goals as goal

pub returns-in_err-offset : goal.returns-in_err-offset
returns-in_err-offset c =
    let p = err_from_is_err_and c.from_residual.result c.from_residual.ensures.1 in
    rw (p.1, p.2) (each_fails (offset_of (marks_of c.args.labels.now)) c.loop-name.offsets c.args.names.now c.loop-name.name-index c.name-item.result c.in_err-offset.field-0.0 _ c.loop-name-test.true c.name-item.is (rw c.as_slice.ensures at c.in_err-offset.ensures) c.loop-name.invariant)

pub loop-name-preserved : goal.loop-name-preserved
loop-name-preserved c =
    rw c.in_ok-push.ensures.ok (each_on (offset_of (marks_of c.args.labels.now)) c.loop-name.offsets c.args.names.now c.loop-name.name-index c.name-item.result c.in_ok-offset.offset _ c.loop-name-test.true c.name-item.is (rw c.as_slice.ensures at c.in_ok-offset.ensures) c.loop-name.invariant)

pub returns : goal.returns
returns c = each_done (offset_of (marks_of c.args.labels.now)) c.loop-name.offsets c.args.names.now c.loop-name.name-index _ c.loop-name-test.false c.loop-name.invariant
