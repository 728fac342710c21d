use Rattle.plain_words.specs.Opening.{areas_of}
use Rattle.opening_cores.specs.Openings.{opening_core}
use Rattle.thread_moves.specs.Thread.{thread_of}
use Rattle.sched_core.specs.Outcome.{bounds_of, rest_of}
use Rattle.traced_runs.proofs.RunLemmas.{HasTraced}
use Rattle.traced_runs.proofs.run.run_traced.Given as goal

abbrev pub invariant-loop-turn : goal.invariant-loop-turn
invariant-loop-turn g l = HasTraced g.C.ThreadCode.code (thread_of g.C.ThreadCode.state g.C.ThreadCode.saved) (bounds_of l.fn.opening l.fn.limits) (areas_of l.fn.opening l.fn.limits)
    (opening_core l.fn.opening (g.C.ThreadCode.state l.fn.code)) (rest_of l.fn.schedule) l.run
