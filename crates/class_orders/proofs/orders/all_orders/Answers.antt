use Rattle.std.proofs.Common.{◌≡◌, ◌+◌, suc, length, sym, ap, subst, arith}
use Rattle.std.proofs.lemmas.Option.{slice_get-get_or}
use Rattle.link_rules.specs.Classes.{classes_of}
use Rattle.link_rules.specs.Supers.{PutsSupersFirst}
use Rattle.link_rules.proofs.Numbers.{class_count_is}
use Rattle.class_orders.proofs.OrderLaws.{none_yet, one_more, all_there}
use Rattle.class_orders.proofs.orders.all_orders.Goals as goal

pub loop-class-init : goal.loop-class-init
loop-class-init c =
    let us = c.args.supers.now in
    let count : 28 + length c.units.result.now + 1 ≡ suc (length (classes_of c.args.supers.now)) = omega (arith, ap length c.units.ensures, class_count_is c.args.supers.now) in
    none_yet (classes_of us) c.deref-class-items.result.now _ c.in_ok-orders.orders.items count c.in_ok-orders.ensures

pub put_class-requires : goal.put_class-requires
put_class-requires c = c.loop-class.invariant.size

pub loop-class-preserved : goal.loop-class-preserved
loop-class-preserved c =
    let cs = classes_of c.args.supers.now in
    let items = c.deref-class-items.result.now in
    let first = subst (PutsSupersFirst cs) (sym c.deref-class-items.ensures.value) c.in_ok-order.ensures in
    let at = slice_get-get_or items c.loop-class.class-index 0 c.loop-class-test.true in
    one_more cs items c.loop-class.class-index c.loop-class.orders.items c.put_class.new.done.items _ first c.loop-class.invariant at c.put_class.ensures.size c.in_ok-put_class.ensures.class c.put_class.ensures.others

pub returns : goal.returns
returns c =
    let cs = classes_of c.args.supers.now in
    let items = c.deref-class-items.result.now in
    let first = subst (PutsSupersFirst cs) (sym c.deref-class-items.ensures.value) c.in_ok-order.ensures in
    all_there cs items c.loop-class.class-index c.loop-class.orders.items first c.loop-class.invariant c.loop-class-test.false
