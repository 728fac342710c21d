use Rattle.section_laws.proofs.held_levels.StandLemmas.{threads_stand_in_order}
use Rattle.section_laws.proofs.held_levels.threads_stand_in_order.Goals as goal

pub returns : goal.returns
returns g c = threads_stand_in_order g.C.ThreadCode.code
