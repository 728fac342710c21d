use Rattle.plain_words.specs.Table.{words_in}
use Rattle.thread_moves.specs.Thread.{thread_of}
use Rattle.word_machine.specs.Machine.{threads_in}
use Rattle.traced_runs.proofs.EndLemmas.{one_end_more}
use Rattle.traced_runs.proofs.telling.tell_ends.Goals as goal

pub loop-number-preserved : goal.loop-number-preserved
loop-number-preserved g c = λ core is s told.
    one_end_more core c.loop-number.number (words_in c.args.machine.now.words) (threads_in (thread_of g.C.ThreadCode.state g.C.ThreadCode.saved) c.args.machine.now.seats.places.items) is.words is.threads
    c.tell_end.new.rows s (c.tell_end.ensures _ (c.loop-number.invariant core is s told))
