use Rattle.section_laws.proofs.level_saves.SaveLemmas.{saves_are_known}
use Rattle.section_laws.proofs.level_saves.saves_are_known.Goals as goal

pub returns : goal.returns
returns g c = saves_are_known g.C.ThreadCode.code
