use Rattle.toy_code.proofs.ToyLemmas.{leaves_at_return, leaves_elsewhere}
use Rattle.toy_code.proofs.toy.ToyThreadCode.leaves.Goals as goal

pub returns-then-is_at_return : goal.returns-then-is_at_return
returns-then-is_at_return c =
    let self = c.args.self.now in
    leaves_at_return self.scripts.now self.steps.now self.place self.saves c.is_at_return.result c.any_with_frames.result c.is_at_return.ensures c.if-is_at_return.true c.any_with_frames.ensures

pub returns-else-is_at_return : goal.returns-else-is_at_return
returns-else-is_at_return c =
    let self = c.args.self.now in
    leaves_elsewhere self.scripts.now self.steps.now self.place self.saves c.is_at_return.result c.is_at_return.ensures c.if-is_at_return.false
