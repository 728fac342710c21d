use Rattle.section_laws.proofs.ActLemmas.{runs_reach_states}
use Rattle.section_laws.proofs.laws.runs_reach_states.Goals as goal

pub returns : goal.returns
returns g c = runs_reach_states g.C.ThreadCode.code
