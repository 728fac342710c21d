use Rattle.std.proofs.Common.{sym, subst}
use Rattle.link_rules.specs.Classes.{classes_of}
use Rattle.link_rules.specs.LinkRules.{hierarchy_rules}
use Rattle.link_rules.specs.Supers.{PutsSupersFirst}
use Rattle.class_supers.proofs.OrderLaws.{above_is_strict, puts_supers_first}
use Rattle.class_supers.proofs.supers.Supers.order.Goals as goal

pub order-requires : goal.order-requires
order-requires c =
    above_is_strict c.self.inside.units.now c.self.inside.above (subst (λ us. (hierarchy_rules us).Hold) (sym c.self.view_is) c.requires) c.self.invariant.related

pub returns : goal.returns
returns c =
    subst (λ us. PutsSupersFirst (classes_of us) c.in_ok-order.order.items) c.self.view_is
    (puts_supers_first c.self.inside.units.now c.self.inside.above c.in_ok-order.order.items c.self.invariant.size c.self.invariant.related c.in_ok-order.ensures)
