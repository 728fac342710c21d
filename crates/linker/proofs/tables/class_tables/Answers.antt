use Rattle.std.proofs.Common.{sym, ◌∙◌, subst}
use Rattle.link_rules.specs.Units.{AreUnits}
use Rattle.link_rules.specs.LinkRules.{link_rules}
use Rattle.linker.proofs.tables.class_tables.Goals as goal

pub new-requires-clause-decoded : goal.new-requires-clause-decoded
new-requires-clause-decoded c = subst AreUnits (sym (c.supers-supers.ensures ∙ c.orders.ensures)) c.requires.decoded

pub new-requires-clause-linked : goal.new-requires-clause-linked
new-requires-clause-linked c = subst (λ us. (link_rules us).Hold) (sym (c.supers-supers.ensures ∙ c.orders.ensures)) c.requires.linked

pub new-requires-2-clause-decoded : goal.new-requires-2-clause-decoded
new-requires-2-clause-decoded c = subst AreUnits (sym (c.supers-supers.ensures ∙ c.orders.ensures)) c.requires.decoded

pub new-requires-3-clause-decoded : goal.new-requires-3-clause-decoded
new-requires-3-clause-decoded c = subst AreUnits (sym (c.units.ensures ∙ c.supers-supers.ensures ∙ c.orders.ensures)) c.requires.decoded
