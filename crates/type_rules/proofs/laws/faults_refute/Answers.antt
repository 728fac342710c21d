use Rattle.type_rules.proofs.Falling.{faults_are_first}
use Rattle.type_rules.proofs.laws.faults_refute.Goals as goal

pub returns : goal.returns
returns c = faults_are_first
