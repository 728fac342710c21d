use Rattle.section_laws.proofs.level_runs.LevelLemmas as lemmas
use Rattle.section_laws.proofs.level_runs.undone_were_doomed.Goals as goal

pub returns : goal.returns
returns g = lemmas.were_doomed
