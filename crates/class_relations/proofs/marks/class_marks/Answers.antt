use Rattle.std.proofs.Common.{◌+◌, [], ◌∙◌, ap, arith}
use Rattle.search_orders.specs.Orders.{has_number}
use Rattle.search_orders.proofs.OrderLaws.{has_put_all}
use Rattle.link_rules.specs.Classes.{classes_of}
use Rattle.link_rules.specs.Supers.{superclasses, method_order}
use Rattle.class_relations.proofs.MarkLaws.{one_marked}
use Rattle.class_relations.proofs.OrderLaws.{order_within_all, superclasses_within_all}
use Rattle.class_relations.proofs.marks.class_marks.Goals as goal

pub loop-class-preserved : goal.loop-class-preserved
loop-class-preserved c =
    let cs = classes_of c.args.orders.now in
    let n = c.loop-class.class in
    record {
      above = one_marked cs (method_order cs) n (c.args.count + 1) c.of-order.result.now.methods c.loop-class.above c.relate_order.new.relation c.loop-class.invariant.above
          c.relate_order.ensures.size
          (λ d. ap (λ xs. has_number xs d) c.of-order.ensures.methods ∙ has_put_all [] (method_order cs n) d)
          (λ d has. omega (arith, order_within_all cs n (omega (arith, c.loop-class-test.true, c.requires.count)) d has, c.requires.count))
          c.relate_order.ensures.here c.relate_order.ensures.past c.relate_order.ensures.elsewhere;
      upward = one_marked cs (superclasses cs) n (c.args.count + 1) c.of-order.result.now.superclasses c.loop-class.upward c.relate_order-in-loop-class.new.relation c.loop-class.invariant.upward
          c.relate_order-in-loop-class.ensures.size
          (λ d. ap (λ xs. has_number xs d) c.of-order.ensures.upward ∙ has_put_all [] (superclasses cs n) d)
          (λ d has. omega (arith, superclasses_within_all cs n (omega (arith, c.loop-class-test.true, c.requires.count)) d has, c.requires.count))
          c.relate_order-in-loop-class.ensures.here c.relate_order-in-loop-class.ensures.past c.relate_order-in-loop-class.ensures.elsewhere;
    }
