use Rattle.std.proofs.Common.{arith, refl, ◌-◌}
use Rattle.step_frames.proofs.Tops.{pushing_more}
use Rattle.step_frames.proofs.top.push_words.Goals as goal

pub loop-left-preserved : goal.loop-left-preserved
loop-left-preserved c =
    let made = c.in_ok-made.ensures in
    pushing_more c.args.stores.now c.loop-left.stores c.push.new.self c.args.frame c.loop-left.made c.in_ok-made.made c.args.words.now (c.loop-left.left - 1) c.loop-left.left
    _ (omega (arith, c.loop-left-test.true)) c.loop-left.invariant refl made.follows made.remembered made.frame made.shown
