use Rattle.std.proofs.Common.{ap, arith, ◌-◌}
use Rattle.type_lists.specs.Store.{word_at}
use Rattle.typing_frames.specs.Frames.{shown}
use Rattle.typing_frames.proofs.FrameLaws.{popped, type_frame}
use Rattle.type_rules.specs.declared.types.VerificationType.TheVariants.{Top}
use Rattle.typing_frames.proofs.stores.FrameStores.pop.Goals as goal

pub returns-clause-shown : goal.returns-clause-shown
returns-clause-shown c =
    let before = shown c.args.self.now c.args.frame in
    ap (λ s. type_frame before.locals s c.args.frame.unset)
    (popped (word_at c.args.self.now.stacks c.args.frame.stack) _ (c.args.frame.depth - 1) c.args.frame.depth Top (omega (arith, c.requires.some)) c.in_ok-stack.ensures.words)
