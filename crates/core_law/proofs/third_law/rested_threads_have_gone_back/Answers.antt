use Rattle.core_law.proofs.third_law.LevelLemmas.{rested_threads_have_gone_back}
use Rattle.core_law.proofs.third_law.rested_threads_have_gone_back.Goals as goal

pub returns : goal.returns
returns g c = rested_threads_have_gone_back g.C.ThreadCode.code
