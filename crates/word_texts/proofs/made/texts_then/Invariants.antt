use Rattle.plain_words.specs.Table.{words_in}
use Rattle.word_texts.specs.OldWords.{old_at}
use Rattle.word_texts.proofs.TextLemmas.{AreTextsThen}
use Rattle.word_texts.proofs.made.texts_then.Given as goal

abbrev pub invariant-loop-array : goal.invariant-loop-array
invariant-loop-array g l = AreTextsThen (old_at l.old) (words_in l.machine.words) l.arrays l.array-index l.made
