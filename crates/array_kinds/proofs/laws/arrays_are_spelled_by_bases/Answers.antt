use Rattle.array_kinds.proofs.Bases.{spelled_here}
use Rattle.array_kinds.proofs.laws.arrays_are_spelled_by_bases.Goals as goal

pub returns : goal.returns
returns c = spelled_here
