use Rattle.std.proofs.Common.{sym, subst}
use Rattle.link_rules.specs.LinkRules.{hierarchy_rules}
use Rattle.link_tests.proofs.supers.ordered.Goals as goal

pub order-requires : goal.order-requires
order-requires c = subst (λ us. (hierarchy_rules us).Hold) (sym c.in-Ok.ensures.linked.0) c.in-Ok.ensures.linked.1
