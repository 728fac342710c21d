use Rattle.link_rules.proofs.Texts.{literals}
use Rattle.link_rules.proofs.laws.literals_are_there.Goals as goal

pub returns : goal.returns
returns c = literals
