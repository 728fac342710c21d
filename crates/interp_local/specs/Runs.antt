-- Many steps.
use Rattle.std.specs.Prelude.{◌≡◌, ℕ, zero, suc, List}
use Rattle.code_decode.specs.declared.code.ClassUnit.{ClassUnit}
use Rattle.instructions.specs.declared.what.Instr.{Instr}
use Rattle.instructions.specs.declared.what.Target.{Target}
use Rattle.frame_snapshot.specs.FrameStack.{FrameStack}
use Rattle.java_rows.specs.LocalRows.{moves}
use Rattle.interp_local.specs.Frames.{frame_now}
use Rattle.interp_local.specs.Steps.{local_now, IsLocal}

-- one step of an instruction that needs no operation
pub record IsLocalStep (us : List ClassUnit) (steps : List (Instr Target)) (old new : FrameStack) : Type 0 where
  pub moved : local_now us steps old ≡ moves (frame_now new)
  pub local : IsLocal old new

-- n such steps, one after the other
abbrev pub IsLocalRun : List ClassUnit → List (Instr Target) → ℕ → FrameStack → FrameStack → Type 0
IsLocalRun us steps zero old new = new ≡ old
IsLocalRun us steps (suc n) old new =
    (between : FrameStack) × IsLocalRun us steps n old between × IsLocalStep us steps between new
