use Rattle.std.proofs.lemmas.Result.{err_from_is_err_and}
use Rattle.class_names.proofs.Cases.{empty_is, full_is}
use Rattle.assembler_lines.proofs.SwitchLaws.{case_shorter, cases_on, cases_fail, cases_done}
use Rattle.assembler_lines.proofs.switches.cases.Goals as goal

pub returns-in_err-case : goal.returns-in_err-case
returns-in_err-case c =
    let p = err_from_is_err_and c.from_residual.result c.from_residual.ensures.1 in
    rw (p.1, p.2) (cases_fail c.loop-rest.cases c.loop-rest.rest.now c.in_err-case.field-0.0 _ (full_is _ _ c.is_empty.ensures c.loop-rest-test.true) c.in_err-case.ensures c.loop-rest.invariant)

pub loop-rest-smaller : goal.loop-rest-smaller
loop-rest-smaller c = case_shorter c.loop-rest.rest.now c.in_ok-case.case c.in_ok-case.after.now c.in_ok-case.ensures

pub loop-rest-preserved : goal.loop-rest-preserved
loop-rest-preserved c =
    rw c.in_ok-push.ensures.ok (cases_on c.loop-rest.cases c.loop-rest.rest.now c.in_ok-case.case c.in_ok-case.after.now _ c.in_ok-case.ensures c.loop-rest.invariant)

pub returns : goal.returns
returns c = cases_done c.loop-rest.cases c.loop-rest.rest.now _ (empty_is _ _ c.is_empty.ensures c.loop-rest-test.false) c.loop-rest.invariant
