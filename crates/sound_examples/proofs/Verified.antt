-- The method of the program is type safe.
use Rattle.std.proofs.Common.{◌≡◌, ℕ, Option, Some, [], ◌∷◌, refl, sym, subst}
use Rattle.rules.proofs.RuleLaws.{one_holds}
use Rattle.builtin_world.specs.Library.{library}
use Rattle.builtin_world.specs.declared.number.TheConstants.{STRING}
use Rattle.class_names.specs.Reading.{kind_at, base_at, split_at_semicolon, spells_class_name}
use Rattle.class_names.specs.Kinds.{kinds_within}
use Rattle.code_decode.specs.declared.code.ClassUnit.{ClassUnit}
use Rattle.code_decode.specs.declared.code.Code.{Code}
use Rattle.link_types.specs.declared.types.ElementType.TheVariants as elements
use Rattle.link_types.specs.declared.types.ObjectType.TheVariants.{Array}
use Rattle.link_rules.specs.Classes.{member_of_file}
use Rattle.link_rules.specs.Names.{program_names}
use Rattle.link_rules.specs.Operands.{operand}
use Rattle.type_rules.specs.declared.types.VerificationType.TheVariants.{Object}
use Rattle.type_rules.specs.Environment.{Environment}
use Rattle.type_rules.specs.Environments.{environment, environment_of}
use Rattle.type_rules.specs.TypeSafe.{IsTypeSafe}
use Rattle.type_rules.specs.VerifyRules.{method_of_file, method_type_rules, verify_rules}
use Rattle.type_examples.proofs.Computed.{safe_by}
use Rattle.type_examples.specs.TinyMethods.{plain_frame}
use Rattle.sound_examples.specs.Program.{idle_code, idle_main, idle_pool, idle_program, idle_unit}

abbrev idle_environment : Environment
idle_environment = environment (program_names idle_program) (operand idle_program 29) 29 (member_of_file idle_pool idle_main) idle_code

there : environment_of idle_program (method_of_file 0 0) ≡ Some idle_environment
unfolding library
there = refl

safe : IsTypeSafe idle_environment
unfolding library kind_at base_at split_at_semicolon spells_class_name kinds_within
safe = safe_by idle_environment (λ k. plain_frame (Object (Array 1 (elements.Class STRING)) ∷ []) []) (record { here = refl; none = refl }, record {})

pub verified : (verify_rules idle_program).Hold
verified =
    one_holds (λ (file : ℕ) (u : ClassUnit). Rattle.rules.specs.Rules.each (λ (method : ℕ) (code : Option Code). method_type_rules file method (environment_of idle_program (method_of_file file method))) u.codes) idle_unit
    (one_holds (λ (method : ℕ) (code : Option Code). method_type_rules 0 method (environment_of idle_program (method_of_file 0 method))) (Some idle_code)
    (subst (λ (x : Option Environment). (method_type_rules 0 0 x).Hold) (sym there) safe))
