-- Full frames as they are written, and as they are read (JVMS SE 8, 4.7.4).
use Rattle.std.specs.Prelude.{◌≡◌, ℕ, ◌+◌, ◌-◌, ◌<◌, ◌≤◌, ◌^◌, List, [], ◌∷◌, Some}
use Rattle.std.specs.List.{AllByRecursion, AllZip}
use Rattle.class_walk.specs.declared.class.Constant.{Constant}
use Rattle.class_walk.specs.Layout.{IsCounted}
use Rattle.instructions.specs.declared.what.Instr.{Instr}
use Rattle.instructions.specs.declared.what.Target.{Target}
use Rattle.instructions.specs.Steps.{number_at}
use Rattle.code_frames.specs.declared.types.LocalsChange.TheVariants.{Full}
use Rattle.code_frames.specs.declared.types.MapFrame.{MapFrame}
use Rattle.code_frames.specs.StackMap.{IsItem}
use Rattle.code_write.specs.declared.frames.VerificationType.{VerificationType}
use Rattle.code_write.specs.declared.frames.VerificationType.TheVariants.{Object, Uninit}
use Rattle.code_write.specs.Frame.{Placed, types_of}

-- the number of a type has two bytes
abbrev pub HasWidth : VerificationType → Type 0
HasWidth (Object index) = index < 2 ^ 16
HasWidth (Uninit at) = at < 2 ^ 16
HasWidth _ = Unit {0}

-- the frame is at this offset or less than 2^16 after it, and each number and count has two bytes
pub record IsWide (least : ℕ) (p : Placed) : Type 0 where
  pub later : least ≤ p.at
  pub delta : p.at - least < 2 ^ 16
  pub locals : IsCounted HasWidth p.locals
  pub stack : IsCounted HasWidth p.stack

abbrev pub HaveWidths : ℕ → List Placed → Type 0
HaveWidths least [] = Unit {0}
HaveWidths least (p ∷ others) = IsWide least p × HaveWidths (p.at + 1) others

-- the frame is read at that offset, with these types, each of which is right
pub record IsAsPlaced (pool : List Constant) (steps : List (Instr Target)) (p : Placed) (f : MapFrame) : Type 0 where
  pub at : f.at ≡ p.at
  pub step : number_at steps p.at ≡ Some f.step
  pub locals : f.locals ≡ Full (types_of p.locals)
  pub stack : f.stack ≡ types_of p.stack
  pub locals_right : AllByRecursion (IsItem pool steps) (types_of p.locals)
  pub stack_right : AllByRecursion (IsItem pool steps) (types_of p.stack)

abbrev pub AreAsPlaced : List Constant → List (Instr Target) → List Placed → List MapFrame → Type 0
AreAsPlaced pool steps written frames = AllZip (IsAsPlaced pool steps) written frames
