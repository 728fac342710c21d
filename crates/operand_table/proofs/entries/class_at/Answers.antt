use Rattle.std.proofs.Common.{sym, ◌∙◌, ap, unwrap_or, []}
use Rattle.std.specs.Option.{option_map}
use Rattle.std.proofs.lemmas.Option.{same_Some}
use Rattle.link_types.specs.declared.operands.ClassOperand.{ClassOperand}
use Rattle.link_types.specs.declared.operands.Operand.TheVariants.{Class}
use Rattle.link_rules.specs.Names.{ProgramNames, program_names, type_named}
use Rattle.link_rules.specs.Operands.{class_operand}
use Rattle.operand_table.proofs.EntryLaws.{names_class}
use Rattle.operand_table.proofs.entries.class_at.Goals as goal

pub returns-in-Some : goal.returns-in-Some
returns-in-Some c = λ us u name are there at.
    let p : ProgramNames = program_names us in
    let n = names_class us c.args.file c.args.index name u are.decoded there at in
    let typed = c.class_type.ensures us are.types u there ∙ ap (option_map (type_named p)) n.is in
    let kind = same_Some (type_named p n.name) c.in-Some.kind (sym typed ∙ c.in-Some.is) in
    ap (λ (x : ClassOperand). Class x) (c.operand_of_type.ensures us n.name are.arrays n.right kind ∙ ap (λ o. class_operand p (unwrap_or o [])) (sym n.is))

pub returns-in-None : goal.returns-in-None
returns-in-None c = λ us u name are there at.
    let p : ProgramNames = program_names us in
    let n = names_class us c.args.file c.args.index name u are.decoded there at in
    let typed = c.class_type.ensures us are.types u there ∙ ap (option_map (type_named p)) n.is in
    absurd (let no = sym typed ∙ c.in-None.is in cc)
