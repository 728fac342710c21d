use Rattle.std.proofs.Common.{ap, sym, ◌∙◌}
use Rattle.type_lists.specs.Store.{word_at}
use Rattle.typing_frames.specs.Frames.{shown}
use Rattle.typing_frames.proofs.FrameLaws.{same_top, same_set, type_frame}
use Rattle.typing_frames.proofs.stores.FrameStores.clear_local.Goals as goal

pub returns-then-is_same_type-clause-shown : goal.returns-then-is_same_type-clause-shown
returns-then-is_same_type-clause-shown c =
    let before = shown c.args.self.now c.args.frame in
    ap (λ l. type_frame l before.stack c.args.frame.unset)
    (same_set (word_at c.args.self.now.locals c.args.frame.locals) c.args.self.now.locals.most c.args.at
    (sym c.word.ensures ∙ same_top c.word.result (sym c.is_same_type.ensures ∙ c.if-is_same_type.true)))
