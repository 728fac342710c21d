use Rattle.thread_moves.specs.Thread.{thread_of}
use Rattle.turn_run_tests.specs.Ready.{StaysReadyOnAny}
use Rattle.turn_run_tests.proofs.plain.give_plainly.Given as goal

-- the thread is ready
abbrev pub invariant-loop-call : goal.invariant-loop-call
invariant-loop-call g l = StaysReadyOnAny g.C.ThreadCode.code l.ready.own.bounds (thread_of g.C.ThreadCode.state g.C.ThreadCode.saved l.ready) l.port
