use Rattle.section_laws.proofs.section_levels.RunLemmas.{levels_are_counted}
use Rattle.section_laws.proofs.section_levels.levels_are_counted.Goals as goal

pub returns : goal.returns
returns g c = levels_are_counted g.C.ThreadCode.code
