use Rattle.std.proofs.Common.{length, ◌∙◌, ap, arith}
use Rattle.access_flags.specs.declared.TheConstants.{INTERFACE}
use Rattle.link_rules.specs.Classes.{classes_of, class_has, superclass_of}
use Rattle.link_rules.proofs.Numbers.{class_count_is}
use Rattle.class_relations.proofs.relations.ClassRelations.new.Goals as goal

pub class_marks-requires-clause-count : goal.class_marks-requires-clause-count
class_marks-requires-clause-count c = omega (arith, ap length (c.units.ensures ∙ c.supers-supers.ensures), class_count_is c.args.orders.now)

pub superclass_list-requires-clause-count : goal.superclass_list-requires-clause-count
superclass_list-requires-clause-count c = omega (arith, ap length c.units.ensures, class_count_is c.supers-supers.result.now)

pub interface_list-requires-clause-count : goal.interface_list-requires-clause-count
interface_list-requires-clause-count c = omega (arith, ap length c.units.ensures, class_count_is c.supers-supers.result.now)

pub returns : goal.returns
returns c =
    let us = c.args.orders.now in
    record {
      count = omega (arith, ap length (c.units.ensures ∙ c.supers-supers.ensures), class_count_is us);
      supers_are = λ k. c.in_ok-superclass_list.ensures k ∙ ap (λ x. superclass_of (classes_of x) k) c.supers-supers.ensures;
      interfaces_are = λ k. c.in_ok-interface_list.ensures k ∙ ap (λ x. class_has (classes_of x) k INTERFACE) c.supers-supers.ensures;
      above = c.in_ok-above.ensures.above;
      upward = c.in_ok-above.ensures.upward;
    }
