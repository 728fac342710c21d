use Rattle.section_laws.proofs.held_levels.StandLemmas.{held_levels_are_open}
use Rattle.section_laws.proofs.held_levels.held_levels_are_open.Goals as goal

pub returns : goal.returns
returns g c = held_levels_are_open g.C.ThreadCode.code
