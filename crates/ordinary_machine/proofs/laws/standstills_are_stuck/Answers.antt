use Rattle.ordinary_machine.proofs.StuckLemmas.{standstills_stuck}
use Rattle.ordinary_machine.proofs.laws.standstills_are_stuck.Goals as goal

pub returns : goal.returns
returns g c = standstills_stuck g.C.ThreadCode.code
