use Rattle.std.proofs.Common.{length}
use Rattle.trace_journal.proofs.NewestLemmas.{IsReadTo}
use Rattle.trace_journal.proofs.newest.read_through.Given as goal

abbrev pub invariant-loop-rest : goal.invariant-loop-rest
invariant-loop-rest l = IsReadTo l.reader l.text l.rest

abbrev pub decreases-loop-rest : goal.decreases-loop-rest
decreases-loop-rest l = length l.rest
