use Rattle.type_lists.specs.Store.{word_at}
use Rattle.type_lists.proofs.ListLaws.{stack_depth}
use Rattle.step_frames.proofs.shown.ShownFrameFrameWords.height.Goals as goal

pub returns : goal.returns
returns c =
    let s = c.args.self.now in
    stack_depth (word_at s.stores.now.stacks s.frame.stack) s.frame.depth
