use Rattle.written_words.proofs.ObservedLemmas.{observed_levels_stay}
use Rattle.written_words.proofs.observed_levels_stay.Goals as goal

pub returns : goal.returns
returns g c = observed_levels_stay g.C.ThreadCode.code
