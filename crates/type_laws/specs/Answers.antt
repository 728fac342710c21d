-- What the type checker can answer.
use Rattle.std.specs.Prelude.{◌≡◌, ℕ, ◌<◌, ◌⊎◌, length}
use Rattle.rules.specs.Rules.{Rules}
use Rattle.instructions.specs.declared.what.Instr.{Instr}
use Rattle.instructions.specs.declared.what.Target.{Target}
use Rattle.type_rules.specs.declared.refusal.VerifyKind.{VerifyKind}
use Rattle.type_rules.specs.Environment.{Environment, TypeFrame}
use Rattle.type_rules.specs.TypeSafe.{IsAssignment, IsFirstTypeFault}

-- a rule fails first in the method
abbrev pub HasFirstTypeFault : Environment → Type 0
HasFirstTypeFault env = (k : ℕ) × (kind : VerifyKind) × (i : Instr Target) × IsFirstTypeFault env k kind i

-- two assignments give each instruction the same frame
abbrev pub AssignmentsAgree : Environment → Type 0
AssignmentsAgree env =
    (p q : ℕ → TypeFrame) → IsAssignment env p → IsAssignment env q → (k : ℕ) → k < length env.steps → p k ≡ q k

-- all of the rules hold, or something is refused: never both, and never two things
pub record HaveOneAnswer {E : Type 0} (rules : Rules E) : Type 0 where
  pub some : rules.Hold ⊎ ((e : E) × rules.Refuse e)
  pub apart : (e : E) → rules.Hold → rules.Refuse e → ⊥
  pub one : (e d : E) → rules.Refuse e → rules.Refuse d → e ≡ d
