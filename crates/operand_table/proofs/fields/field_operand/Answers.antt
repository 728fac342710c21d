use Rattle.std.proofs.Common.{sym, ◌∙◌, ap}
use Rattle.link_types.specs.declared.types.ObjectType.{ObjectType}
use Rattle.member_lookup.specs.declared.found.Found.{Found}
use Rattle.member_lookup.specs.declared.found.ReferenceNumbers.{ReferenceNumbers}
use Rattle.link_rules.specs.Classes.{classes_of}
use Rattle.link_rules.specs.Members.{found_field}
use Rattle.link_rules.specs.Names.{program_names, type_named}
use Rattle.link_rules.specs.Operands.{field_named}
use Rattle.class_layout.specs.Rows.{place_numbered}
use Rattle.operand_table.specs.FieldTypes.{field_type}
use Rattle.operand_table.specs.Found.{operand_of_field}
use Rattle.operand_table.proofs.FieldLaws.{field_is}
use Rattle.operand_table.proofs.MethodLaws.{found_is}
use Rattle.operand_table.proofs.fields.field_operand.Goals as goal

pub returns-in-Some : goal.returns-in-Some
returns-in-Some c = λ us r are numbers named.
    let same = ap (λ x. found_field (classes_of x) r) are.lookup in
    let d = found_is (found_field (classes_of c.args.sources.lookup.now.units) r) c.in-Some.found (sym (c.found_field.ensures r numbers) ∙ c.in-Some.is) in
    let made = λ (named : ObjectType) (f : Found). operand_of_field named (field_type us r.descriptor) (place_numbered (classes_of us) f.class f.place) f in
    c.operand_of_field.ensures us r.descriptor are (ap (λ (n : ReferenceNumbers). n.descriptor) numbers.are)
    ∙ ap (λ t. made t c.in-Some.found) named
    ∙ ap (made (type_named (program_names us) r.class)) d.2
    ∙ field_is us r d.0 (sym same ∙ d.1)
    ∙ ap (field_named (program_names us) r) (sym d.1 ∙ same)
