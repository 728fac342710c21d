use Rattle.section_laws.proofs.held_levels.StandLemmas.{rewakes_are_in_levels}
use Rattle.section_laws.proofs.held_levels.rewakes_are_in_levels.Goals as goal

pub returns : goal.returns
returns g c = rewakes_are_in_levels g.C.ThreadCode.code
