use Rattle.std.proofs.Common.{◌≡◌, ℕ, ◌<◌}
use Rattle.thread_moves.specs.Thread.{thread_of}
use Rattle.sched_core.specs.ScheduledRun.{CanGoOn, IsSame}
use Rattle.sched_core.proofs.word_run.WordRun.give_lowest.Given as goal

abbrev pub invariant-loop-number : goal.invariant-loop-number
invariant-loop-number g l = record {
  same : IsSame (thread_of g.C.ThreadCode.state g.C.ThreadCode.saved) l.initial.self l.self;
  rest : l.self.rest ≡ l.initial.self.rest;
  none : (u : ℕ) → u < l.number → CanGoOn g.C.ThreadCode.code (thread_of g.C.ThreadCode.state g.C.ThreadCode.saved) l.initial.self.machine.words l.initial.self.machine.seats.places.items u → ⊥;
}
