use Rattle.ordinary_runs.proofs.CountLemmas.{zero_everywhere}
use Rattle.ordinary_runs.proofs.counts.TurnCounts.new.Goals as goal

pub returns : goal.returns
returns c = zero_everywhere 256
