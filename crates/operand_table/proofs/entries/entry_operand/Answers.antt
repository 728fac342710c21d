use Rattle.std.proofs.Common.{◌≡◌, Some, slice_get, sym, ◌∙◌, ap, unwrap_or, subst, []}
use Rattle.class_pool.specs.Pool.{Reference, reference_of}
use Rattle.class_walk.specs.declared.class.Constant.{Constant}
use Rattle.class_walk.specs.declared.class.Constant.TheVariants.{Field, Method, IfaceMethod}
use Rattle.code_laws.proofs.FileLaws.{entries}
use Rattle.link_rules.specs.Classes.{number_of_file}
use Rattle.link_rules.specs.Members.{found_field, found_method}
use Rattle.link_rules.specs.Names.{ProgramNames, program_names}
use Rattle.link_rules.specs.Operands.{field_named, method_found, operand_of}
use Rattle.operand_table.proofs.entries.entry_operand.Goals as goal

pub returns-in-Field : goal.returns-in-Field
returns-in-Field c = λ us are at.
    let p : ProgramNames = program_names us in
    let u = c.args.unit.now in
    let pool = u.file.pool in
    let there = subst (λ x. slice_get x c.args.file ≡ Some u) are.lookup c.requires.there in
    let named = entries u.file (are.decoded c.args.file u there).file c.args.index (Field c.in-Field.field-0 c.in-Field.field-1) (at ∙ ap (λ x. Some x) c.in-Field.is) in
    let none : Reference = reference_of [] [] [] in
    c.field_at.ensures us named.0 are named.1
    ∙ ap (λ o. field_named p (unwrap_or o none) (found_field p.classes (unwrap_or o none))) (sym named.1)
    ∙ ap (λ (x : Constant). operand_of p (number_of_file c.args.file) pool c.args.index (Some x)) (sym c.in-Field.is)

pub returns-in-Method : goal.returns-in-Method
returns-in-Method c = λ us are at.
    let p : ProgramNames = program_names us in
    let this = number_of_file c.args.file in
    let u = c.args.unit.now in
    let pool = u.file.pool in
    let there = subst (λ x. slice_get x c.args.file ≡ Some u) are.lookup c.requires.there in
    let named = entries u.file (are.decoded c.args.file u there).file c.args.index (Method c.in-Method.field-0 c.in-Method.field-1) (at ∙ ap (λ x. Some x) c.in-Method.is) in
    let none : Reference = reference_of [] [] [] in
    c.method_at.ensures us named.0 are named.1
    ∙ ap (λ o. method_found p this (unwrap_or o none) (found_method p.classes (unwrap_or o none))) (sym named.1)
    ∙ ap (λ (x : Constant). operand_of p this pool c.args.index (Some x)) (sym c.in-Method.is)

pub returns-in-IfaceMethod : goal.returns-in-IfaceMethod
returns-in-IfaceMethod c = λ us are at.
    let p : ProgramNames = program_names us in
    let this = number_of_file c.args.file in
    let u = c.args.unit.now in
    let pool = u.file.pool in
    let there = subst (λ x. slice_get x c.args.file ≡ Some u) are.lookup c.requires.there in
    let named = entries u.file (are.decoded c.args.file u there).file c.args.index (IfaceMethod c.in-IfaceMethod.field-0 c.in-IfaceMethod.field-1) (at ∙ ap (λ x. Some x) c.in-IfaceMethod.is) in
    let none : Reference = reference_of [] [] [] in
    c.method_at-in-IfaceMethod.ensures us named.0 are named.1
    ∙ ap (λ o. method_found p this (unwrap_or o none) (found_method p.classes (unwrap_or o none))) (sym named.1)
    ∙ ap (λ (x : Constant). operand_of p this pool c.args.index (Some x)) (sym c.in-IfaceMethod.is)
