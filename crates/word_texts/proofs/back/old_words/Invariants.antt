use Rattle.plain_words.specs.Table.{words_in}
use Rattle.thread_moves.specs.Thread.{thread_of}
use Rattle.word_machine.specs.Machine.{threads_in}
use Rattle.word_texts.specs.OldWords.{old_at}
use Rattle.word_texts.specs.PutBack.{back_in}
use Rattle.word_texts.proofs.OldLemmas.{AreOldestBelow}
use Rattle.word_texts.proofs.back.old_words.Given as goal

abbrev pub invariant-loop-number : goal.invariant-loop-number
invariant-loop-number g l = AreOldestBelow (λ t. back_in (words_in l.machine.words) (threads_in (thread_of g.C.ThreadCode.state g.C.ThreadCode.saved) l.machine.seats.places.items t)) l.number (old_at l.words)
