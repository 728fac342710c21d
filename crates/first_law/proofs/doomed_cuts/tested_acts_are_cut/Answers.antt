use Rattle.first_law.proofs.doomed_cuts.CutLemmas.{tested_acts_are_cut}
use Rattle.first_law.proofs.doomed_cuts.tested_acts_are_cut.Goals as goal

pub returns : goal.returns
returns g c = tested_acts_are_cut g.C.ThreadCode.State
