use Rattle.std.proofs.Common.{◌-◌}
use Rattle.program_input.proofs.Feeds.{FeedsSoFar}
use Rattle.program_input.proofs.feeding.feed_up_to.Given as goal

abbrev pub invariant-pieces : goal.invariant-pieces
invariant-pieces g l = FeedsSoFar g.F.Feed.rest l.initial.reader l.reader (g.I.Source.left l.initial.input) (g.I.Source.left l.input) (g.I.Source.taken l.initial.input) (g.I.Source.taken l.input) l.count l.most (g.I.Source.faults l.initial.input) (g.I.Source.faults l.input)

abbrev pub decreases-pieces : goal.decreases-pieces
decreases-pieces g l = l.most - l.count
