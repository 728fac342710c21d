-- What holds of the handlers of an exception table (JVMS SE 8, 4.7.3).
use Rattle.std.specs.Prelude.{◌≡◌, ◌↔◌, ℕ, ◌<◌, ◌≤◌, List, length, Some, slice_get}
use Rattle.class_walk.specs.declared.class.Constant.{Constant}
use Rattle.instructions.specs.declared.what.Instr.{Instr}
use Rattle.instructions.specs.declared.what.Target.{Target}
use Rattle.code_decode.specs.declared.code.Handler.{Handler}
use Rattle.code_decode.specs.Handlers.{IsCaught}
use Rattle.code_laws.specs.Steps.{StandsAt}

-- what is covered, by numbers of instructions and by offsets: from the first on, and before the end
abbrev pub Covers : Handler → ℕ → Type 0
Covers h k = (h.first ≤ k) × (k < h.end)

abbrev pub CoversOffset : Handler → ℕ → Type 0
CoversOffset h at = (h.from ≤ at) × (at < h.to)

-- a handler of the code: the instructions that it covers, the one at which it begins, and what it catches
pub record IsHandlerInside (pool : List Constant) (steps : List (Instr Target)) (h : Handler) : Type 0 where
  pub first : StandsAt steps h.first h.from
  pub some : h.first < h.end
  pub end : h.end ≤ length steps
  pub entry : StandsAt steps h.entry h.at
  pub caught : IsCaught pool h.kind
  pub covers : (k : ℕ) (i : Instr Target) → slice_get steps k ≡ Some i → Covers h k ↔ CoversOffset h i.at
