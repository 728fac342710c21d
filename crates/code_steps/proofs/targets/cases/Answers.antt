use Rattle.code_steps.specs.Targets.{target_of, case_of}
use Rattle.code_steps.proofs.TargetLoop.{all_more, all_end, all_done}
use Rattle.code_steps.proofs.targets.cases.Goals as goal

pub returns-in-None : goal.returns-in-None
returns-in-None c =
    all_end (case_of (target_of c.args.offsets.now)) c.args.from.now c.loop-each.cases c.loop-each.each-index _ c.loop-each-test.true c.in-None.ensures c.loop-each.invariant

pub loop-each-preserved : goal.loop-each-preserved
loop-each-preserved c =
    rw c.in_ok-push-in-Some.ensures.ok
    (all_more (case_of (target_of c.args.offsets.now)) c.args.from.now c.loop-each.cases c.loop-each.each-index _ c.in-Some.case c.loop-each-test.true c.in-Some.ensures c.loop-each.invariant)

pub returns : goal.returns
returns c = all_done (case_of (target_of c.args.offsets.now)) c.args.from.now c.loop-each.cases c.loop-each.each-index c.loop-each-test.false c.loop-each.invariant
