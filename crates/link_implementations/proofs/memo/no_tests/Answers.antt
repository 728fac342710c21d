use Rattle.link_implementations.proofs.TestedLaws.{tested_more}
use Rattle.link_implementations.proofs.memo.no_tests.Goals as goal

pub loop-preserved : goal.loop-preserved
loop-preserved c = λ p. tested_more p c.loop.tested.items c.push.new.self.items c.none.result (c.loop.invariant p) c.in_ok-push.ensures.items (c.none.ensures p)
