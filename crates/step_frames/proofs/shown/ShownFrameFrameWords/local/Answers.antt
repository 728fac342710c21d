use Rattle.std.proofs.Common.{sym, ◌∙◌}
use Rattle.type_lists.specs.Store.{word_at}
use Rattle.type_lists.proofs.ListLaws.{first_read}
use Rattle.step_frames.proofs.shown.ShownFrameFrameWords.local.Goals as goal

pub returns : goal.returns
returns c =
    let s = c.args.self.now in
    first_read (word_at s.stores.now.locals s.frame.locals) s.stores.now.locals.most c.args.at s.locals_end ∙ sym c.word.ensures
