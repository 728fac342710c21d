use Rattle.type_lists.proofs.PartLaws.{zeros}
use Rattle.type_lists.proofs.parts.no_children.Goals as goal

pub returns : goal.returns
returns c = λ n. zeros 32 n
