use Rattle.std.proofs.Common.{◌≡◌, None, drop, ℕ, ◌+◌, ◌-◌, ◌*◌, ◌<◌, ◌≤◌, length}
use Rattle.thread_moves.specs.Thread.{thread_of, Saves}
use Rattle.thread_changes.proofs.apply.drop_saves.Given as goal

abbrev pub invariant-loop-dropped : goal.invariant-loop-dropped
invariant-loop-dropped g l =
    (thread_of g.C.ThreadCode.state g.C.ThreadCode.saved l.thread ≡ record (thread_of g.C.ThreadCode.state g.C.ThreadCode.saved l.initial.thread) {
      saved = drop l._dropped (thread_of g.C.ThreadCode.state g.C.ThreadCode.saved l.initial.thread).saved;
      marks = drop l._dropped (thread_of g.C.ThreadCode.state g.C.ThreadCode.saved l.initial.thread).marks;
    })
    × Saves g.C.ThreadCode.saved l.thread
    × (l.thread.own.bounds ≡ l.initial.thread.own.bounds)
