use Rattle.std.proofs.Common.{sym, ◌∙◌, arith}
use Rattle.type_lists.specs.Store.{word_at}
use Rattle.typing_frames.proofs.FrameLaws.{stack_none, stack_there}
use Rattle.typing_frames.proofs.stores.FrameStores.peek.Goals as goal

pub returns-then-frame-under : goal.returns-then-frame-under
returns-then-frame-under c = sym (stack_none (word_at c.args.self.now.stacks c.args.frame.stack) c.args.frame.depth c.args.under (omega (arith, c.if-frame-under.true)))

pub returns : goal.returns
returns c =
    c.word.ensures
    ∙ stack_there (word_at c.args.self.now.stacks c.args.frame.stack) c.args.frame.depth c.args.under (omega (arith, c.if-frame-under.false))
