use Rattle.array_kinds.proofs.Bases.{type_there}
use Rattle.array_kinds.proofs.laws.named_types_are_there.Goals as goal

pub returns : goal.returns
returns c = type_there
