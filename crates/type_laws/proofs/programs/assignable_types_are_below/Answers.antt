use Rattle.type_laws.proofs.Below.{means_below}
use Rattle.type_laws.proofs.programs.assignable_types_are_below.Goals as goal

pub returns : goal.returns
returns c = means_below
