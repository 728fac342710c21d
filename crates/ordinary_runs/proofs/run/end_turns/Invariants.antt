use Rattle.std.proofs.Common.{◌≡◌}
use Rattle.ordinary_runs.specs.ScheduledRun.{order_behind}
use Rattle.ordinary_runs.proofs.run.end_turns.Given as goal

abbrev pub invariant-loop-turn : goal.invariant-loop-turn
invariant-loop-turn l = l.rest ≡ record l.initial.rest { order = order_behind l._turn l.initial.rest.order }
