use Rattle.section_laws.proofs.level_runs.LevelLemmas as lemmas
use Rattle.section_laws.proofs.level_runs.doomed_are_unpinned.Goals as goal

pub returns : goal.returns
returns g = lemmas.doomed_are_unpinned
