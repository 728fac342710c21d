use Rattle.std.proofs.Common.{◌==◌, sym, ◌∙◌, ap, arith}
use Rattle.std.proofs.Math.Bool.{or-false}
use Rattle.search_orders.specs.Orders.{has_number}
use Rattle.link_rules.specs.Classes.{classes_of}
use Rattle.link_rules.proofs.Numbers.{class_count_is}
use Rattle.class_relations.proofs.OrderLaws.{alone}
use Rattle.class_relations.proofs.relations.ClassRelations.is_superclass.Goals as goal

pub returns-then-low-self : goal.returns-then-low-self
returns-then-low-self c = λ us are. c.relates.ensures ∙ are.upward.each c.args.low c.args.high (omega (arith, c.if-low-self.true, are.count))

pub returns-else-low-self : goal.returns-else-low-self
returns-else-low-self c = λ us are.
    let cs = classes_of us in
    let only = alone cs c.args.low (omega (arith, class_count_is us)) (omega (arith, c.if-low-self.false, are.count)) in
    sym (ap (λ xs. has_number xs c.args.high) only ∙ or-false (c.args.low == c.args.high))
