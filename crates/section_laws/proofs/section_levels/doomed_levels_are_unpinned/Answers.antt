use Rattle.section_laws.proofs.section_levels.LevelLemmas.{doomed_levels_are_unpinned}
use Rattle.section_laws.proofs.section_levels.doomed_levels_are_unpinned.Goals as goal

pub returns : goal.returns
returns g c = doomed_levels_are_unpinned g.C.ThreadCode.code
