use Rattle.type_laws.proofs.Insides.{stay_inside}
use Rattle.type_laws.proofs.programs.methods_stay_inside.Goals as goal

pub returns : goal.returns
returns c = stay_inside
