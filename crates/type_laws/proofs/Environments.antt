-- The environments of methods with code.
use Rattle.std.proofs.Common.{◌≡◌, ℕ, Option, Some, List, [], subst, ap, ◌∙◌, slice_get, option_map, option_and_then}
use Rattle.std.specs.Option.{option_map_or, option_flatten}
use Rattle.std.proofs.lemmas.Option.{slice_get-map}
use Rattle.class_read.specs.declared.class_file.Member.{Member}
use Rattle.code_decode.specs.declared.code.Code.{Code}
use Rattle.code_decode.specs.declared.code.ClassUnit.{ClassUnit}
use Rattle.link_rules.specs.Classes.{NamedClass, NamedMember, classes_of, member_of_file, number_of_file}
use Rattle.link_rules.specs.Methods.{method_named, method_code}
use Rattle.link_rules.specs.Names.{program_names}
use Rattle.link_rules.specs.Operands.{operand}
use Rattle.link_rules.proofs.Numbers.{file_class}
use Rattle.link_rules.proofs.Objects.{unit_of_file}
use Rattle.type_rules.specs.Environment.{Environment}
use Rattle.type_rules.specs.Environments.{environment}
use Rattle.type_rules.specs.VerifyRules.{method_type_rules, method_of_file, verify_rules}
use Rattle.type_laws.specs.Programs.{IsMethodWithCode, MethodsHaveEnvironments, MethodsAreTypeSafe}

named : (us : List ClassUnit) (file method : ℕ) (u : ClassUnit) (m : Member) (code : Code) → IsMethodWithCode us file method u m code
    → method_named (classes_of us) (method_of_file file method) ≡ Some (member_of_file u.file.pool m)
named us file method u m code is =
    ap (λ o. slice_get (option_map_or (λ (c : NamedClass). c.methods) o []) method) (file_class us file u is.unit_there)
    ∙ (slice_get-map (member_of_file u.file.pool) u.file.methods method ∙ ap (option_map (member_of_file u.file.pool)) is.member_there)

coded : (us : List ClassUnit) (file method : ℕ) (u : ClassUnit) (m : Member) (code : Code) → IsMethodWithCode us file method u m code
    → method_code us (method_of_file file method) ≡ Some code
coded us file method u m code is =
    ap (λ o. option_flatten (option_and_then (λ (x : ClassUnit). slice_get x.codes method) o)) (unit_of_file us file ∙ is.unit_there)
    ∙ ap (λ o. option_flatten o) is.code_there

pub have_environments : (us : List ClassUnit) → MethodsHaveEnvironments us
have_environments us file method u m code is =
    ap (λ o. option_and_then (λ (n : NamedMember). option_map (environment (program_names us) (operand us (number_of_file file)) (number_of_file file) n) (method_code us (method_of_file file method))) o) (named us file method u m code is)
    ∙ ap (λ o. option_map (environment (program_names us) (operand us (number_of_file file)) (number_of_file file) (member_of_file u.file.pool m)) o) (coded us file method u m code is)

pub are_safe : (us : List ClassUnit) → (verify_rules us).Hold → MethodsAreTypeSafe us
are_safe us holds file method u m code is =
    let P : Option Environment → Type 0 = λ o. (method_type_rules file method o).Hold in
    subst P (have_environments us file method u m code is) (holds file u is.unit_there method (Some code) is.code_there)
