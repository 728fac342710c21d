use Rattle.std.proofs.Common.{ap}
use Rattle.type_lists.specs.Store.{word_at}
use Rattle.typing_frames.specs.Frames.{shown}
use Rattle.typing_frames.proofs.FrameLaws.{stack_all_replaced, type_frame}
use Rattle.typing_frames.proofs.stores.FrameStores.replaced_on_stack.Goals as goal

pub returns-clause-shown : goal.returns-clause-shown
returns-clause-shown c =
    let before = shown c.args.self.now c.args.frame in
    ap (λ s. type_frame before.locals s c.args.frame.unset)
    (stack_all_replaced (word_at c.args.self.now.stacks c.args.frame.stack) _ c.args.frame.depth c.args.old c.args.new c.in_ok-stack.ensures.words)
