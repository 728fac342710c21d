use Rattle.std.proofs.Common.{sym, subst}
use Rattle.link_rules.specs.Units.{AreUnits}
use Rattle.link_rules.specs.LinkRules.{link_rules}
use Rattle.linker.proofs.linking.checked_tables.Goals as goal

pub linked_tables-requires-clause-decoded : goal.linked_tables-requires-clause-decoded
linked_tables-requires-clause-decoded c = subst AreUnits (sym c.in_ok-lookup.ensures.linked.0) c.requires.decoded

pub linked_tables-requires-clause-linked : goal.linked_tables-requires-clause-linked
linked_tables-requires-clause-linked c = subst (λ us. (link_rules us).Hold) (sym c.in_ok-lookup.ensures.linked.0) c.in_ok-lookup.ensures.linked.1
