use Rattle.std.proofs.lemmas.Result.{err_from_is_err_and}
use Rattle.code_steps.specs.Reading.{case_at}
use Rattle.class_walk.proofs.Loop.{goes_on, is_done}
use Rattle.code_steps.proofs.Loop.{ends, fails}
use Rattle.code_steps.proofs.switches.cases.Goals as goal

pub returns-in_err-case : goal.returns-in_err-case
returns-in_err-case c =
    let p = err_from_is_err_and c.from_residual.result c.from_residual.ensures.1 in
    rw (p.1, p.2) (ends c.in_err-case.field-0.0 (case_at c.args.at) c.loop.cases c.args.count c.loop.counter c.loop.cursor _ c.loop-test.true (fails c.in_err-case.field-0.0 _ c.in_err-case.ensures) c.loop.invariant)

pub loop-preserved : goal.loop-preserved
loop-preserved c =
    rw c.in_ok-push.ensures.ok (goes_on (case_at c.args.at) c.loop.cases c.args.count c.loop.counter c.loop.cursor c.in_ok-case.case c.case.new.cursor _ c.loop-test.true c.in_ok-case.ensures c.loop.invariant)

pub returns : goal.returns
returns c = is_done (case_at c.args.at) c.loop.cases c.args.count c.loop.counter c.loop.cursor _ c.loop-test.false c.loop.invariant
