use Rattle.std.proofs.Common.{◌==◌, refl, sym, ◌∙◌, ap, arith}
use Rattle.link_rules.specs.Classes.{classes_of}
use Rattle.std.proofs.lemmas.Bool.{ne_eqb}
use Rattle.std.proofs.Math.Bool.{or-false}
use Rattle.search_orders.specs.Orders.{has_number}
use Rattle.link_rules.proofs.Numbers.{class_count_is}
use Rattle.class_relations.proofs.OrderLaws.{order_alone}
use Rattle.class_relations.proofs.relations.ClassRelations.is_class_below.Goals as goal

pub returns-then-low-self : goal.returns-then-low-self
returns-then-low-self c = λ us are.
    let marked = are.above.each c.args.low c.args.high (omega (arith, c.if-low-self.true, are.count)) in
    c.relates.ensures ∙ marked ∙ sym (rw (ne_eqb c.args.high 1 c.if-high-eq-OBJECT.false) refl)

pub returns-else-low-self : goal.returns-else-low-self
returns-else-low-self c = λ us are.
    let cs = classes_of us in
    let only = order_alone cs c.args.low (omega (arith, class_count_is us)) (omega (arith, c.if-low-self.false, are.count)) in
    sym (rw (ne_eqb c.args.high 1 c.if-high-eq-OBJECT.false) (ap (λ xs. has_number xs c.args.high) only ∙ or-false (c.args.low == c.args.high)))
