use Rattle.std.proofs.Common.{ℕ, ◌<◌, Some}
use Rattle.thread_moves.specs.Thread.{thread_of}
use Rattle.word_runs.specs.WordTurns.{EndedBy}
use Rattle.word_machine.specs.Machine.{threads_in}
use Rattle.sched_core.proofs.ends.has_died.Given as goal

abbrev pub invariant-loop-number : goal.invariant-loop-number
invariant-loop-number g l = (t c : ℕ) → t < l.number → EndedBy g.C.ThreadCode.code (Some c) (threads_in (thread_of g.C.ThreadCode.state g.C.ThreadCode.saved) l.machine.seats.places.items t) → ⊥
