use Rattle.enabled_law.proofs.WatchLemmas.{only_watched}
use Rattle.enabled_law.proofs.laws.only_watched_words_count.Goals as goal

pub returns : goal.returns
returns g c = only_watched g.C.ThreadCode.code
