use Rattle.std.proofs.Common.{arith, sym, ap, ◌∙◌}
use Rattle.type_lists.specs.Parts.{word_of}
use Rattle.type_lists.proofs.StoreLaws.{word_inside, word_behind}
use Rattle.type_lists.proofs.store.WordStore.word.Goals as goal

pub returns-then-at-room_of : goal.returns-then-at-room_of
returns-then-at-room_of c = sym (word_behind c.args.self.now c.args.words c.args.at (omega (arith, c.if-at-room_of.true, c.room_of.ensures.room)))

pub returns : goal.returns
returns c =
    c.word_in.ensures ∙ ap (λ ps. word_of ps c.args.self.now.height c.args.words.root c.args.at) c.deref.ensures.value
    ∙ sym (word_inside c.args.self.now c.args.words c.args.at (omega (arith, c.if-at-room_of.false, c.room_of.ensures.room)))
