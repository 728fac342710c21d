use Rattle.schedules.specs.Laws.{AreThoseBelow}
use Rattle.thread_moves.specs.Thread.{thread_of}
use Rattle.sched_core.specs.ScheduledRun.{CanGoOn}
use Rattle.sched_core.proofs.run.list_enabled.Given as goal

abbrev pub invariant-loop-number : goal.invariant-loop-number
invariant-loop-number g l = AreThoseBelow (CanGoOn g.C.ThreadCode.code (thread_of g.C.ThreadCode.state g.C.ThreadCode.saved) l.machine.words l.machine.seats.places.items) l.number l.threads.items
