-- Where the code of a method leads.
use Rattle.std.specs.Prelude.{◌≡◌, ℕ, ◌<◌, ◌≤◌, Some, List, length, slice_get}
use Rattle.std.specs.List.{AllByRecursion}
use Rattle.instructions.specs.declared.what.Instr.{Instr}
use Rattle.instructions.specs.declared.what.Target.{Target}
use Rattle.instructions.specs.What.{targets_of}
use Rattle.class_read.specs.declared.class_file.Member.{Member}
use Rattle.code_decode.specs.declared.code.Code.{Code}
use Rattle.code_decode.specs.declared.code.ClassUnit.{ClassUnit}
use Rattle.link_rules.specs.Units.{IsDecoded}
use Rattle.type_rules.specs.Environment.{Environment, TypedHandler}
use Rattle.type_laws.specs.Programs.{IsMethodWithCode, environment_in}

-- a handler covers some instructions of the method, and begins at one
pub record IsInside (count : ℕ) (h : TypedHandler) : Type 0 where
  pub some : h.first < h.end
  pub end : h.end ≤ count
  pub entry : h.entry < count

-- the method has an instruction, and each target and each handler is inside it
pub record StaysInside (env : Environment) : Type 0 where
  pub begins : 0 < length env.steps
  pub targets : (k : ℕ) (i : Instr Target) → slice_get env.steps k ≡ Some i → AllByRecursion (λ t. t.step < length env.steps) (targets_of i.what)
  pub handlers : (n : ℕ) (h : TypedHandler) → slice_get env.handlers n ≡ Some h → IsInside (length env.steps) h

abbrev pub MethodsStayInside : List ClassUnit → Type 0
MethodsStayInside us =
    (file method : ℕ) (u : ClassUnit) (m : Member) (code : Code) → IsDecoded u → IsMethodWithCode us file method u m code
    → StaysInside (environment_in us file u m code)
