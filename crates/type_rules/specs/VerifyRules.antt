-- The rules of the type checker over a program (JVMS 4.10.1): each method with code is type safe.
use Rattle.std.specs.Prelude.{◌≡◌, ℕ, Option, None, Some, List, ⊤}
use Rattle.rules.specs.Rules.{Rules, each}
use Rattle.code_decode.specs.declared.code.Code.{Code}
use Rattle.code_decode.specs.declared.code.ClassUnit.{ClassUnit}
use Rattle.instructions.specs.declared.what.Instr.{Instr}
use Rattle.instructions.specs.declared.what.Target.{Target}
use Rattle.link_types.specs.declared.operands.MethodId.{MethodId}
use Rattle.link_rules.specs.Classes.{number_of_file}
use Rattle.type_rules.specs.declared.refusal.VerifyKind.{VerifyKind}
use Rattle.type_rules.specs.declared.refusal.VerifyRefusal.{VerifyRefusal}
use Rattle.type_rules.specs.declared.refusal.VerifyRefusal.TheVariants.{At}
use Rattle.type_rules.specs.Environment.{Environment}
use Rattle.type_rules.specs.Environments.{environment_of}
use Rattle.type_rules.specs.TypeSafe.{IsTypeSafe, IsFirstTypeFault}

-- the refusal says which rule fails first in a method of the file at a place, and the offset where it fails
pub record TellsFirstFault (file method : ℕ) (env : Environment) (refusal : VerifyRefusal) : Type 0 where
  pub number : ℕ
  pub kind : VerifyKind
  pub instruction : Instr Target
  pub first : IsFirstTypeFault env number kind instruction
  pub told : refusal ≡ At kind file method instruction.at

-- a method with code is type safe
abbrev pub method_type_rules : ℕ → ℕ → Option Environment → Rules VerifyRefusal
method_type_rules file method None = record { Hold = ⊤; Refuse = λ e. ⊥ }
method_type_rules file method (Some env) = record { Hold = IsTypeSafe env; Refuse = TellsFirstFault file method env }

abbrev pub method_of_file : ℕ → ℕ → MethodId
method_of_file file method = record { class = number_of_file file; method = method }

-- the methods of each file in order, one file after another
abbrev pub verify_rules : List ClassUnit → Rules VerifyRefusal
verify_rules us =
    each (λ file (u : ClassUnit). each (λ method (code : Option Code). method_type_rules file method (environment_of us (method_of_file file method))) u.codes) us
