use Rattle.link_rules.proofs.Initializers.{initializers}
use Rattle.link_rules.proofs.laws.initializers_take_nothing.Goals as goal

pub returns : goal.returns
returns c = initializers
