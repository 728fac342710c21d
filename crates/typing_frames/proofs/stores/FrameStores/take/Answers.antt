use Rattle.typing_frames.proofs.FrameLaws.{taking_more}
use Rattle.typing_frames.proofs.stores.FrameStores.take.Goals as goal

pub loop-preserved : goal.loop-preserved
loop-preserved c =
    let made = c.in_ok-made.ensures in
    taking_more c.args.self.now c.loop.self c.pop.new.self c.args.frame c.loop.made c.in_ok-made.made c.loop.counter c.loop.invariant
    made.follows made.remembered made.frame made.depth made.shown
