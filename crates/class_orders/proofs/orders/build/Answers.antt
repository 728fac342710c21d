use Rattle.std.proofs.Common.{◌≡◌, ◌<◌, ◌≤◌, Some, slice_get, length, refl, sym, ◌∙◌, ap, subst, arith}
use Rattle.std.proofs.lemmas.Option.{slice_get_read}
use Rattle.link_rules.specs.Classes.{classes_of, superclass_of}
use Rattle.link_rules.proofs.Numbers.{superclass_within}
use Rattle.class_orders.specs.Orders.{IsBuilt}
use Rattle.class_orders.proofs.OrderLaws.{built_is_right, orders_at}
use Rattle.class_orders.proofs.orders.build.Goals as goal

pub bounds-done-superclass : goal.bounds-done-superclass
bounds-done-superclass c =
    let room : superclass_of (classes_of c.args.supers.now) c.args.class ≤ length (classes_of c.args.supers.now) = superclass_within (classes_of c.args.supers.now) c.args.class in
    omega (arith, c.superclass.ensures, c.requires)

pub returns : goal.returns
returns c = λ ready.
    let cs = classes_of c.args.supers.now in
    let os = c.args.done.now in
    let a = c.index-done-superclass.result in
    let room : superclass_of (classes_of c.args.supers.now) c.args.class ≤ length (classes_of c.args.supers.now) = superclass_within (classes_of c.args.supers.now) c.args.class in
    let lt : c.superclass.result < length os = omega (arith, c.superclass.ensures, c.requires) in
    let at : slice_get os c.superclass.result ≡ Some a = slice_get_read os (length os) c.superclass.result a refl lt c.index-done-superclass.is in
    let its : slice_get os (superclass_of (classes_of c.args.supers.now) c.args.class) ≡ Some a = ap (slice_get os) (sym c.superclass.ensures) ∙ at in
    let built = subst (λ named. IsBuilt os c.args.class a named c.in_ok-order.order) c.interfaces.ensures c.in_ok-order.ensures in
    built_is_right cs os c.args.class a c.in_ok-order.order ready (orders_at cs os (superclass_of cs c.args.class) a its ready.above) built
