use Rattle.std.proofs.Common.{sym, ◌∙◌, subst}
use Rattle.link_rules.specs.LinkRules.{hierarchy_rules}
use Rattle.linker.proofs.WorldLaws.{hierarchy_holds}
use Rattle.linker.proofs.linking.linked_tables.Goals as goal

pub order-requires : goal.order-requires
order-requires c = subst (λ us. (hierarchy_rules us).Hold) (sym (c.supers-supers.ensures ∙ c.orders.ensures)) (hierarchy_holds c.args.lookup.now.units c.requires.linked)
