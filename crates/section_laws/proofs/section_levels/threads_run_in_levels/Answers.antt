use Rattle.section_laws.proofs.section_levels.LevelLemmas.{threads_run_in_levels}
use Rattle.section_laws.proofs.section_levels.threads_run_in_levels.Goals as goal

pub returns : goal.returns
returns g c = threads_run_in_levels g.C.ThreadCode.code
