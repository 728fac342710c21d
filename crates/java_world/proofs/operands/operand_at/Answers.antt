use Rattle.std.proofs.Common.{sym, ◌∙◌, subst}
use Rattle.link_rules.specs.Names.{program_names}
use Rattle.java_world.proofs.FieldLaws.{place_small}
use Rattle.java_world.proofs.OperandLaws.{IsOperandOf, operand_is}
use Rattle.java_world.proofs.operands.operand_at.Goals as goal

pub returns-clause-places : goal.returns-clause-places
returns-clause-places c = λ field e.
    let us = c.args.world.now in
    let is = subst (IsOperandOf (program_names us)) (sym c.operand.ensures ∙ e) (operand_is us c.args.class c.args.index) in
    place_small us c.is_linked.ensures.order.0 field c.is_linked.ensures.decoded c.is_linked.ensures.linked.0 c.is_linked.ensures.order.1 is
