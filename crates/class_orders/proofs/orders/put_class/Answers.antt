use Rattle.std.proofs.Common.{◌<◌, length, arith, sym, subst}
use Rattle.link_rules.specs.Classes.{classes_of}
use Rattle.class_orders.specs.Orders.{IsReady}
use Rattle.class_orders.proofs.OrderLaws.{has_set, beside_set}
use Rattle.class_orders.proofs.orders.put_class.Goals as goal

pub returns-clause-class : goal.returns-clause-class
returns-clause-class c = λ some within ready.
    let lt : c.args.class < length c.args.done.now.items = omega (arith, c.requires) in
    has_set (classes_of c.args.supers.now) c.args.done.now.items c.args.class c.in_ok-order.order lt (c.in_ok-order.ensures (subst (λ os. IsReady (classes_of c.args.supers.now) os c.args.class) (sym c.deref.ensures.value) ready))

pub returns-clause-others : goal.returns-clause-others
returns-clause-others c = λ d apart. beside_set c.args.done.now.items c.args.class d c.in_ok-order.order (λ same. c.if-class-eq0.false (apart (sym same)))
