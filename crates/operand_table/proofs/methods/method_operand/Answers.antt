use Rattle.std.proofs.Common.{◌≡◌, ◌+◌, sym, ◌∙◌, ap, arith}
use Rattle.code_decode.specs.declared.code.ClassUnit.{ClassUnit}
use Rattle.link_rules.specs.Classes.{classes_of, number_of_file}
use Rattle.link_rules.specs.Members.{found_method}
use Rattle.link_rules.specs.Names.{program_names}
use Rattle.link_rules.specs.Operands.{special_id, method_found}
use Rattle.operand_table.specs.Found.{id_of}
use Rattle.operand_table.proofs.MethodLaws.{found_is, method_is}
use Rattle.operand_table.proofs.methods.method_operand.Goals as goal

pub returns-in-Some : goal.returns-in-Some
returns-in-Some c = λ us r are numbers named.
    let there = c.found_method.ensures r numbers in
    let d = found_is (found_method (classes_of c.args.sources.lookup.now.units) r) c.in-Some.found (sym there ∙ c.in-Some.is) in
    let number : 28 + 1 + c.args.file ≡ number_of_file c.args.file = omega arith in
    let called = c.special_id.ensures r d.0 numbers d.2
    ∙ ap (λ n. special_id (program_names c.args.sources.lookup.now.units) n r d.0) number
    ∙ ap (λ (x : Rattle.std.proofs.Common.List ClassUnit). special_id (program_names x) (number_of_file c.args.file) r d.0) are.lookup in
    method_is us (number_of_file c.args.file) r d.0 c.args.named c.id_of.result c.special_id.result c.is_constructor.result
    named (c.id_of.ensures ∙ ap id_of d.2) called (c.is_constructor.ensures r numbers)
    ∙ ap (method_found (program_names us) (number_of_file c.args.file) r) (sym d.1 ∙ ap (λ x. found_method (classes_of x) r) are.lookup)
