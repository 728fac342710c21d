use Rattle.std.proofs.Common.{◌≡◌, length}
use Rattle.schedules.specs.Schedule.{rest_due}
use Rattle.schedules.proofs.remaining.Remaining.due.Given as goal

abbrev pub invariant-loop-item : goal.invariant-loop-item
invariant-loop-item g l = rest_due (g.T.LiveThreads.live l.threads) l.self ≡ rest_due (g.T.LiveThreads.live l.threads) l.initial.self

abbrev pub decreases-loop-item : goal.decreases-loop-item
decreases-loop-item g l = length l.self.order
