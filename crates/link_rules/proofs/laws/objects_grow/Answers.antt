use Rattle.link_rules.proofs.Fields.{linked_objects_grow}
use Rattle.link_rules.proofs.laws.objects_grow.Goals as goal

pub returns : goal.returns
returns c = linked_objects_grow
