use Rattle.thread_moves.specs.Thread.{thread_of}
use Rattle.word_machine.specs.Machine.{threads_in}
use Rattle.sched_core.proofs.EndLemmas.{AreEndsBelow}
use Rattle.sched_core.proofs.ends.ends_of.Given as goal

abbrev pub invariant-loop-number : goal.invariant-loop-number
invariant-loop-number g l = AreEndsBelow g.C.ThreadCode.code (threads_in (thread_of g.C.ThreadCode.state g.C.ThreadCode.saved) l.machine.seats.places.items) l.number l.ends
