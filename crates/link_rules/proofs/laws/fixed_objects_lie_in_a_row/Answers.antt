use Rattle.link_rules.proofs.Objects.{objects_row}
use Rattle.link_rules.proofs.laws.fixed_objects_lie_in_a_row.Goals as goal

pub returns : goal.returns
returns c = objects_row
