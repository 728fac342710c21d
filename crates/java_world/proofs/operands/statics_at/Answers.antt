use Rattle.std.proofs.Common.{◌≡◌, Some, sym, ◌∙◌, ap, subst}
use Rattle.std.specs.Option.{option_map}
use Rattle.link_types.specs.declared.operands.FieldOperand.{FieldOperand}
use Rattle.link_types.specs.declared.operands.Layout.{Layout}
use Rattle.link_rules.specs.Names.{program_names}
use Rattle.java_rows.specs.Initialization.{statics_of}
use Rattle.java_rows.specs.Program.{field_of}
use Rattle.java_world.proofs.ClassLaws.{object_of}
use Rattle.java_world.proofs.FieldLaws.{owner_counts}
use Rattle.java_world.proofs.OperandLaws.{IsOperandOf, operand_is}
use Rattle.java_world.proofs.operands.statics_at.Goals as goal

pub returns-in-Field : goal.returns-in-Field
returns-in-Field c =
    let us = c.args.world.now in
    let object = c.layout.result.object in
    let found = sym c.operand.ensures ∙ c.in-Field.is in
    let is = subst (IsOperandOf (program_names us)) found (operand_is us c.args.class c.args.index) in
    let same : statics_of us c.in-Field.field ≡ object =
    sym (ap (λ (l : Layout). l.object) c.layout.ensures ∙ object_of (program_names us) c.in-Field.field.owner (owner_counts us c.in-Field.field is)) in
    subst (λ o. option_map (statics_of us) (field_of o) ≡ option_map (λ (f : FieldOperand). object) (field_of o)) (sym found) (ap (λ n. Some n) same)
