use Rattle.std.proofs.Common.{◌≡◌}
use Rattle.thread_moves.specs.Thread.{thread_of}
use Rattle.turn_runs.specs.Stretch.{PassBy}
use Rattle.turn_runs.proofs.stretch.turns.Given as goal

abbrev pub invariant-loop-passed : goal.invariant-loop-passed
invariant-loop-passed g l = record {
  passed : PassBy g.C.ThreadCode.code l.initial.ready.own.bounds g.P.StepPort.stepped l.looks
      (thread_of g.C.ThreadCode.state g.C.ThreadCode.saved l.initial.ready) l.initial.port l.passed
      (thread_of g.C.ThreadCode.state g.C.ThreadCode.saved l.ready) l.port;
  bounds : l.ready.own.bounds ≡ l.initial.ready.own.bounds;
}
