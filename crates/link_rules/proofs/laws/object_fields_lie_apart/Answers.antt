use Rattle.link_rules.proofs.Fields.{linked_objects_apart}
use Rattle.link_rules.proofs.laws.object_fields_lie_apart.Goals as goal

pub returns : goal.returns
returns c = linked_objects_apart
