use Rattle.std.proofs.Common.{ap, []}
use Rattle.type_lists.specs.Store.{word_at}
use Rattle.typing_frames.proofs.FrameLaws.{tops_shown, type_frame}
use Rattle.typing_frames.proofs.stores.FrameStores.empty.Goals as goal

pub returns-clause-shown : goal.returns-clause-shown
returns-clause-shown c =
    ap (λ l. type_frame l [] c.args.unset) (tops_shown (word_at c.args.self.now.locals c.tops.result) c.args.self.now.locals.most c.tops.ensures.words)
