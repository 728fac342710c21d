use Rattle.type_laws.proofs.Kept.{right_types}
use Rattle.type_laws.proofs.frames.right_types_are_used.Goals as goal

pub returns : goal.returns
returns c = right_types
