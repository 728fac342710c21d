-- One step of an instruction that needs no operation.
use Rattle.std.specs.Prelude.{◌≡◌, Option, None, Some, List, slice_get}
use Rattle.code_decode.specs.declared.code.ClassUnit.{ClassUnit}
use Rattle.instructions.specs.declared.what.Instr.{Instr}
use Rattle.instructions.specs.declared.what.Target.{Target}
use Rattle.frame_snapshot.specs.FrameStack.{FrameStack}
use Rattle.java_rows.specs.LocalRows.{LocalRow, moves, fails_by, no_row, local_row}
use Rattle.java_rows.specs.Plan.{Frame}
use Rattle.interp_local.specs.declared.effect.Effect.{Effect}
use Rattle.interp_local.specs.declared.effect.Effect.TheVariants as effects
use Rattle.interp_local.specs.declared.effect.Effect.TheVariants.{Throws}
use Rattle.interp_local.specs.declared.step.LocalStep.{LocalStep}
use Rattle.interp_local.specs.declared.step.LocalStep.TheVariants.{Moved, Throw, Other}
use Rattle.interp_local.specs.Frames.{frame_now}

abbrev pub row_at : List ClassUnit → Frame → Option (Instr Target) → LocalRow
row_at us f (Some instruction) = local_row us f instruction.what f.stack
row_at us f None = no_row

-- the row of the top frame's instruction, among the instructions of its method
abbrev pub local_now : List ClassUnit → List (Instr Target) → FrameStack → LocalRow
local_now us steps s = row_at us (frame_now s) (slice_get steps s.here.step)

-- what a step came to, with the frames after it
abbrev pub outcome : LocalStep → FrameStack → LocalRow
outcome Moved s = moves (frame_now s)
outcome (Throw c) s = fails_by c
outcome Other s = no_row

-- what a row says of the step
abbrev pub kind_of : LocalRow → LocalStep
kind_of (moves f) = Moved
kind_of (fails_by c) = Throw c
kind_of no_row = Other

-- what no step changes: the frames below, the saves, the method, and where the frame is inside its instruction
pub record IsLocal (old new : FrameStack) : Type 0 where
  pub below : new.below ≡ old.below
  pub saves : new.saves ≡ old.saves
  pub stage : new.here.stage ≡ old.here.stage
  pub method : new.here.method ≡ old.here.method

-- only a step that moves changes anything
abbrev pub KeptUnlessMoved : LocalStep → FrameStack → FrameStack → Type 0
KeptUnlessMoved Moved old new = Unit {0}
KeptUnlessMoved _ old new = new ≡ old

abbrev pub kind_of_effect : Effect → LocalStep
kind_of_effect (Throws c) = Throw c
kind_of_effect effects.Other = Other
kind_of_effect _ = Moved
