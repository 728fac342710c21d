use Rattle.std.proofs.Common.{sym, ap, arith}
use Rattle.std.proofs.lemmas.List.{set_past}
use Rattle.type_lists.specs.Store.{word_at}
use Rattle.type_lists.proofs.ListLaws.{first_count}
use Rattle.typing_frames.specs.Frames.{shown}
use Rattle.map_frames.specs.Making.{type_frame}
use Rattle.map_frames.proofs.words.with_local.Goals as goal

pub returns-then-from-at-clause-shown : goal.returns-then-from-at-clause-shown
returns-then-from-at-clause-shown c =
    let store = c.args.stores.now.locals in
    let before = shown c.args.stores.now c.args.frame in
    ap (λ l. type_frame l before.stack c.args.frame.unset)
    (sym (set_past before.locals c.args.at c.args.word (omega (arith, first_count (word_at store c.args.frame.locals) store.most, c.requires.locals, c.if-from-at.true, c.from.ensures))))
