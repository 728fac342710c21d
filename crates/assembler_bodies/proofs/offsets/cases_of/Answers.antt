use Rattle.std.proofs.lemmas.Result.{err_from_is_err_and}
use Rattle.assembler_bodies.specs.Marks.{marks_of}
use Rattle.assembler_bodies.specs.Offsets.{case_of}
use Rattle.assembler_bodies.proofs.EachLaws.{each_on, each_fails, each_done}
use Rattle.assembler_bodies.proofs.offsets.cases_of.Goals as goal

pub returns-in_err-case : goal.returns-in_err-case
returns-in_err-case c =
    let p = err_from_is_err_and c.from_residual.result c.from_residual.ensures.1 in
    rw (p.1, p.2) (each_fails (case_of (marks_of c.args.labels.now)) c.loop-one.cases c.args.said.now c.loop-one.one-index c.one-item.result c.in_err-case.field-0.0 _ c.loop-one-test.true c.one-item.is c.in_err-case.ensures c.loop-one.invariant)

pub loop-one-preserved : goal.loop-one-preserved
loop-one-preserved c =
    rw c.in_ok-push.ensures.ok (each_on (case_of (marks_of c.args.labels.now)) c.loop-one.cases c.args.said.now c.loop-one.one-index c.one-item.result c.in_ok-case.case _ c.loop-one-test.true c.one-item.is c.in_ok-case.ensures c.loop-one.invariant)

pub returns : goal.returns
returns c = each_done (case_of (marks_of c.args.labels.now)) c.loop-one.cases c.args.said.now c.loop-one.one-index _ c.loop-one-test.false c.loop-one.invariant
