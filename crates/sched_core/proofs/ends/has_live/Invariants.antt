use Rattle.std.proofs.Common.{◌≡◌, ℕ, ◌<◌, false}
use Rattle.thread_moves.specs.Thread.{thread_of}
use Rattle.word_runs.specs.WordTurns.{is_live}
use Rattle.word_machine.specs.Machine.{threads_in}
use Rattle.sched_core.proofs.ends.has_live.Given as goal

abbrev pub invariant-loop-number : goal.invariant-loop-number
invariant-loop-number g l = (t : ℕ) → t < l.number → is_live (threads_in (thread_of g.C.ThreadCode.state g.C.ThreadCode.saved) l.machine.seats.places.items t) ≡ false
