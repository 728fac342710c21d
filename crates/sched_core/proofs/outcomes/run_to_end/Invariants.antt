use Rattle.schedules.specs.Run.{Run}
use Rattle.thread_moves.specs.Thread.{thread_of}
use Rattle.word_runs.specs.WordTurns.{Progress}
use Rattle.sched_core.specs.ScheduledRun.{AreListed, IsOnWay}
use Rattle.sched_core.proofs.ComeLemmas.{HasCome}
use Rattle.sched_core.proofs.outcomes.run_to_end.Given as goal

abbrev pub invariant-loop-turn : goal.invariant-loop-turn
invariant-loop-turn g l = ((from : Run (Progress g.C.ThreadCode.State)) → IsOnWay g.C.ThreadCode.code (thread_of g.C.ThreadCode.state g.C.ThreadCode.saved) l.initial.run from
    → HasCome g.C.ThreadCode.code (thread_of g.C.ThreadCode.state g.C.ThreadCode.saved) l.initial.run.machine.bounds l.initial.run.machine.words.areas from l.run)
    × AreListed g.C.ThreadCode.code (thread_of g.C.ThreadCode.state g.C.ThreadCode.saved) l.run
