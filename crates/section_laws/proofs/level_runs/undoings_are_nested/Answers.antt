use Rattle.section_laws.proofs.level_runs.LevelLemmas as lemmas
use Rattle.section_laws.proofs.level_runs.undoings_are_nested.Goals as goal

pub returns : goal.returns
returns g = lemmas.are_nested
