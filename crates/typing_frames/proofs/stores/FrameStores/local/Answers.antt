use Rattle.std.proofs.Common.{sym, ◌∙◌}
use Rattle.type_lists.specs.Store.{word_at}
use Rattle.type_lists.proofs.ListLaws.{first_read}
use Rattle.typing_frames.proofs.stores.FrameStores.local.Goals as goal

pub returns : goal.returns
returns c =
    let store = c.args.self.now.locals in
    c.word.ensures ∙ sym (first_read (word_at store c.args.frame.locals) store.most c.args.at c.requires.locals_end)
