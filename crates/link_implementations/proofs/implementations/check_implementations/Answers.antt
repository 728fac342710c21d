use Rattle.link_implementations.proofs.RuleLaws.{implementations_refused}
use Rattle.link_implementations.proofs.implementations.check_implementations.Goals as goal

pub returns-clause-first : goal.returns-clause-first
returns-clause-first c = implementations_refused c.args.lookup.now.units c.check_all.result c.check_all.ensures
