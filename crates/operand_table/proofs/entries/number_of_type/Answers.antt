use Rattle.std.proofs.Common.{sym, ◌∙◌, ap}
use Rattle.link_rules.specs.Names.{ProgramNames, program_names, array_number}
use Rattle.operand_table.proofs.EntryLaws.{number_is, number_of_class}
use Rattle.operand_table.proofs.entries.number_of_type.Goals as goal

pub returns-in-Class : goal.returns-in-Class
returns-in-Class c = λ us name are right is.
    let p : ProgramNames = program_names us in
    sym (number_is p name right ∙ ap (λ t. number_of_class t (array_number p name)) (is ∙ c.in-Class.is))

pub returns-in-Other : goal.returns-in-Other
returns-in-Other c = λ us name are right is.
    let p : ProgramNames = program_names us in
    sym (number_is p name right ∙ ap (λ t. number_of_class t (array_number p name)) (is ∙ c.in-Other.is))

pub returns-in-Array : goal.returns-in-Array
returns-in-Array c = λ us name are right is.
    let p : ProgramNames = program_names us in
    c.number.ensures us are name (is ∙ c.in-Array.is)
    ∙ sym (number_is p name right ∙ ap (λ t. number_of_class t (array_number p name)) (is ∙ c.in-Array.is))
