use Rattle.std.proofs.Common.{ap, arith}
use Rattle.type_lists.specs.Store.{word_at}
use Rattle.typing_frames.specs.Frames.{shown}
use Rattle.typing_frames.proofs.FrameLaws.{most_fits, pushed, type_frame}
use Rattle.typing_frames.proofs.stores.FrameStores.push.Goals as goal

pub overflow_add-result : goal.overflow_add-result
overflow_add-result c = omega (arith, c.requires.room, most_fits c.args.self.now.stacks)

pub returns-clause-shown : goal.returns-clause-shown
returns-clause-shown c =
    let before = shown c.args.self.now c.args.frame in
    ap (λ s. type_frame before.locals s c.args.frame.unset)
    (pushed (word_at c.args.self.now.stacks c.args.frame.stack) _ c.args.frame.depth c.args.word c.in_ok-stack.ensures.words)
