use Rattle.std.proofs.Common.{◌≡◌}
use Rattle.sched_core.specs.ScheduledRun.{order_left}
use Rattle.sched_core.proofs.run.end_turns.Given as goal

abbrev pub invariant-loop-turn : goal.invariant-loop-turn
invariant-loop-turn l = l.rest ≡ record l.initial.rest { order = order_left l._turn l.initial.rest.order }
