use Rattle.std.proofs.Common.{ap}
use Rattle.type_lists.specs.Store.{word_at}
use Rattle.typing_frames.specs.Frames.{shown}
use Rattle.typing_frames.proofs.FrameLaws.{local_set, type_frame}
use Rattle.typing_frames.proofs.stores.FrameStores.set_local.Goals as goal

pub returns-clause-shown : goal.returns-clause-shown
returns-clause-shown c =
    let before = shown c.args.self.now c.args.frame in
    ap (λ l. type_frame l before.stack c.args.frame.unset)
    (local_set (word_at c.args.self.now.locals c.args.frame.locals) _ c.args.self.now.locals.most _ c.args.at c.args.word c.in_ok-locals.ensures.follows.most c.in_ok-locals.ensures.words)
