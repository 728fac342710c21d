use Rattle.std.proofs.Common.{◌<◌, length, get_or, refl, rules}
use Rattle.op_core.specs.declared.MadeText.{MadeText}
use Rattle.plain_words.specs.Table.{words_in}
use Rattle.word_texts.specs.OldWords.{old_at}
use Rattle.word_texts.proofs.TextLemmas.{one_more_text}
use Rattle.word_texts.proofs.made.texts_then.Goals as goal

pub loop-array-preserved : goal.loop-array-preserved
loop-array-preserved g c =
    let arrays = c.args.arrays.now in
    let n = c.loop-array.array-index in
    let inside : n < length arrays = search rules in
    let text : MadeText = record { at = get_or arrays n 0; units = c.in_ok-units.units } in
    one_more_text (old_at c.args.old.now) (words_in c.args.machine.now.words) arrays n c.loop-array.made c.push.new.self text
    c.loop-array.invariant inside refl c.in_ok-units.ensures c.in_ok-push.ensures.ok
