use Rattle.std.proofs.Common.{sym, ◌∙◌}
use Rattle.type_lists.specs.Store.{word_at}
use Rattle.type_lists.proofs.ListLaws.{stack_depth}
use Rattle.typing_frames.specs.Frames.{shown}
use Rattle.typing_frames.proofs.CompareLaws.{depths_apart}
use Rattle.typing_frames.proofs.stores.FrameStores.is_frame_assignable.Goals as goal

pub returns-then-low-high-clause-told : goal.returns-then-low-high-clause-told
returns-then-low-high-clause-told g c = λ env same.
    let stacks = c.args.self.now.stacks in
    depths_apart env (shown c.args.self.now c.args.low) (shown c.args.self.now c.args.high)
    (λ e. c.if-low-high.true (sym (stack_depth (word_at stacks c.args.low.stack) c.args.low.depth) ∙ e ∙ stack_depth (word_at stacks c.args.high.stack) c.args.high.depth))
