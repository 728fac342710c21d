use Rattle.link_rules.proofs.Fields.{statics_apart}
use Rattle.link_rules.proofs.laws.static_fields_lie_apart.Goals as goal

pub returns : goal.returns
returns c = statics_apart
