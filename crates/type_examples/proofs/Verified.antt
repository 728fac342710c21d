-- A program whose methods are type safe.
use Rattle.std.proofs.Common.{◌≡◌, ℕ, zero, suc, Option, Some, [], ◌∷◌, refl, sym, subst}
use Rattle.std.proofs.lemmas.Option.{none-some, same_Some}
use Rattle.rules.specs.Rules.{Rules, each}
use Rattle.rules.proofs.RuleLaws.{one_holds}
use Rattle.builtin_world.specs.Library.{library}
use Rattle.code_decode.specs.declared.code.Code.{Code}
use Rattle.code_decode.specs.declared.code.ClassUnit.{ClassUnit}
use Rattle.type_rules.specs.declared.refusal.VerifyRefusal.{VerifyRefusal}
use Rattle.class_names.specs.Reading.{kind_at, base_at, split_at_semicolon, spells_class_name}
use Rattle.class_names.specs.Kinds.{kinds_within}
use Rattle.type_rules.specs.Environment.{Environment}
use Rattle.type_rules.specs.Environments.{environment_of}
use Rattle.type_rules.specs.TypeSafe.{IsTypeSafe}
use Rattle.type_rules.specs.VerifyRules.{method_type_rules, method_of_file, verify_rules}
use Rattle.type_examples.specs.TinyMethods.{choice_frames}
use Rattle.type_examples.specs.TinyProgram.{tiny_program, tiny_unit, choice_code, constructor_code, tiny_choice, tiny_constructor, constructor_frames}
use Rattle.type_examples.proofs.Computed.{safe_by}

choice_there : environment_of tiny_program (method_of_file 0 0) ≡ Some tiny_choice
unfolding library
choice_there = refl

constructor_there : environment_of tiny_program (method_of_file 0 1) ≡ Some tiny_constructor
unfolding library
constructor_there = refl

choice_verified : IsTypeSafe tiny_choice
unfolding library kind_at base_at split_at_semicolon spells_class_name kinds_within
choice_verified =
    safe_by tiny_choice choice_frames
    (record { here = refl; none = refl }, (record { here = refl; none = refl }, (record { here = refl; none = refl }, (record { here = refl; none = refl }, (record { here = refl; none = refl }, (record { here = refl; none = refl }, record {}))))))

constructor_verified : IsTypeSafe tiny_constructor
unfolding library kind_at base_at split_at_semicolon spells_class_name kinds_within
constructor_verified =
    safe_by tiny_constructor constructor_frames
    (record { here = refl; none = refl }, (record { here = refl; none = refl }, (record { here = refl; none = refl }, record {})))

safe_rules : (file method : ℕ) (o : Option Environment) (env : Environment) → o ≡ Some env → IsTypeSafe env → (method_type_rules file method o).Hold
safe_rules file method o env e safe = subst (λ (x : Option Environment). (method_type_rules file method x).Hold) (sym e) safe

-- ---- the rules of items one after another

two_hold : {E X : Type 0} (rules : ℕ → X → Rules E) (x z : X) → (rules 0 x).Hold → (rules 1 z).Hold → (each rules (x ∷ z ∷ [])).Hold
two_hold {X = X} rules x z first second zero y e = subst (λ (w : X). (rules 0 w).Hold) (same_Some x y e) first
two_hold {X = X} rules x z first second (suc zero) y e = subst (λ (w : X). (rules 1 w).Hold) (same_Some z y e) second
two_hold rules x z first second (suc (suc i)) y e = absurd (none-some y e)

abbrev rules_of_method : ℕ → ℕ → Option Code → Rules VerifyRefusal
rules_of_method file method code = method_type_rules file method (environment_of tiny_program (method_of_file file method))

abbrev rules_of_file : ℕ → ClassUnit → Rules VerifyRefusal
rules_of_file file u = each (λ method code. rules_of_method file method code) u.codes

pub program_verified : (verify_rules tiny_program).Hold
program_verified =
    one_holds rules_of_file tiny_unit
    (two_hold (rules_of_method 0) (Some choice_code) (Some constructor_code)
    (safe_rules 0 0 (environment_of tiny_program (method_of_file 0 0)) tiny_choice choice_there choice_verified)
    (safe_rules 0 1 (environment_of tiny_program (method_of_file 0 1)) tiny_constructor constructor_there constructor_verified))
