use Rattle.std.proofs.Common.{◌≡◌, ◌<◌, ◌^◌, [], ◌∷◌, Some, sym, ◌∙◌, ap, subst}
use Rattle.std.specs.Option.{option_map}
use Rattle.link_types.specs.declared.operands.ClassOperand.{ClassOperand}
use Rattle.link_types.specs.declared.operands.Layout.{Layout}
use Rattle.link_rules.specs.FixedObjects.{class_object}
use Rattle.link_rules.specs.Names.{program_names}
use Rattle.java_rows.specs.Program.{constant_words}
use Rattle.java_world.proofs.ClassLaws.{object_of, named_counts}
use Rattle.java_world.proofs.LiteralLaws.{number_small}
use Rattle.java_world.proofs.OperandLaws.{IsOperandOf, operand_is}
use Rattle.java_world.proofs.constants.constant_at.Goals as goal

pub string_reference-requires : goal.string_reference-requires
string_reference-requires c =
    let us = c.args.world.now in
    let is = subst (IsOperandOf (program_names us)) (sym c.operand.ensures ∙ c.in-Text.is) (operand_is us c.args.class c.args.index) in
    subst (λ n. n < 2 ^ 30) is.1 (number_small us is.0 c.is_linked.ensures.decoded c.is_linked.ensures.linked.0)

pub returns-in_ok-number-in-Class : goal.returns-in_ok-number-in-Class
returns-in_ok-number-in-Class c =
    let us = c.args.world.now in
    let p = program_names us in
    let number = c.in_ok-number-in-Class.number in
    let found = sym c.operand.ensures ∙ c.in-Class.is in
    let is = subst (IsOperandOf p) found (operand_is us c.args.class c.args.index) in
    let counted = named_counts p is.0 number (ap (λ (k : ClassOperand). k.number) is.1 ∙ c.in_ok-number-in-Class.was) in
    let same : c.layout.result.object ≡ class_object p number = ap (λ (l : Layout). l.object) c.layout.ensures ∙ object_of p number counted in
    ap (λ n. Some (n ∷ [])) same
    ∙ sym (ap (constant_words p) found ∙ ap (option_map (λ n. class_object p n ∷ [])) c.in_ok-number-in-Class.was)
