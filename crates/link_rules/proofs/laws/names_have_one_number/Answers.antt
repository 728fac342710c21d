use Rattle.link_rules.proofs.Named.{one_number}
use Rattle.link_rules.proofs.laws.names_have_one_number.Goals as goal

pub returns : goal.returns
returns c = one_number
