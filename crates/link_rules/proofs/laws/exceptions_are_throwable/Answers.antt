use Rattle.link_rules.proofs.Throwables.{throwables}
use Rattle.link_rules.proofs.laws.exceptions_are_throwable.Goals as goal

pub returns : goal.returns
returns c = throwables
