-- The bytes of a full frame (JVMS SE 8, 4.7.4).
use Rattle.std.specs.Prelude.{◌≡◌, ℕ, ◌+◌, ◌-◌, ◌<◌, ◌≤◌, ◌^◌, List, [], ◌∷◌, ◌++◌, length, map, Some}
use Rattle.class_walk.specs.declared.class.Constant.{Constant}
use Rattle.class_walk.specs.Layout.{u1, u2, table, IsCounted}
use Rattle.instructions.specs.declared.what.Instr.{Instr}
use Rattle.instructions.specs.declared.what.Target.{Target}
use Rattle.instructions.specs.Steps.{number_at}
use Rattle.code_frames.specs.declared.types.LocalsChange.TheVariants.{Full}
use Rattle.code_frames.specs.declared.types.MapFrame.{MapFrame}
use Rattle.code_frames.specs.declared.types.VType.{VType}
use Rattle.code_frames.specs.declared.types.VType.TheVariants as types
use Rattle.code_frames.specs.StackMap.{item, IsItem}
use Rattle.code_write.specs.declared.frames.VerificationType.{VerificationType}
use Rattle.code_write.specs.declared.frames.VerificationType.TheVariants.{Top, Int, Float, Double, Long, Null, UninitThis, Object, Uninit}

-- the type as a frame that is read has it
abbrev pub type_of : VerificationType → VType
type_of Top = types.Top
type_of Int = types.Int
type_of Float = types.Float
type_of Double = types.Double
type_of Long = types.Long
type_of Null = types.Null
type_of UninitThis = types.UninitThis
type_of (Object index) = types.Object index
type_of (Uninit at) = types.Uninit at

-- verification_type_info
abbrev pub type_bytes : VerificationType → List ℕ
type_bytes t = item (type_of t)

-- full_frame: its kind, offset_delta, the locals and the stack
abbrev pub full_frame : ℕ → List VerificationType → List VerificationType → List ℕ
full_frame delta locals stack = u1 255 ++ u2 delta ++ table type_bytes locals ++ table type_bytes stack

-- a full frame at its place: the offset and the number of its instruction, and its types
pub record Placed : Type 0 where
  pub at : ℕ
  pub step : ℕ
  pub locals : List VerificationType
  pub stack : List VerificationType

abbrev pub types_of : List VerificationType → List VType
types_of types = map type_of types

-- the frame as it is read
abbrev pub frame_of : Placed → MapFrame
frame_of p = record { at = p.at; step = p.step; locals = Full (types_of p.locals); stack = types_of p.stack }

-- full frames one after another, the first of which is at this offset or after it; each delta counts from the least
-- offset that the frame may have
abbrev pub frames_bytes : ℕ → List Placed → List ℕ
frames_bytes least [] = []
frames_bytes least (p ∷ others) = full_frame (p.at - least) p.locals p.stack ++ frames_bytes (p.at + 1) others

-- the content of a StackMapTable
abbrev pub map_bytes : List Placed → List ℕ
map_bytes frames = u2 (length frames) ++ frames_bytes 0 frames

-- the offset is an instruction's, and the types are right
pub record IsPlaced (pool : List Constant) (steps : List (Instr Target)) (least : ℕ) (p : Placed) : Type 0 where
  pub later : least ≤ p.at
  pub delta : p.at - least < 2 ^ 16
  pub step : number_at steps p.at ≡ Some p.step
  pub locals : IsCounted (IsItem pool steps) (types_of p.locals)
  pub stack : IsCounted (IsItem pool steps) (types_of p.stack)

abbrev pub ArePlaced : List Constant → List (Instr Target) → ℕ → List Placed → Type 0
ArePlaced pool steps least [] = Unit {0}
ArePlaced pool steps least (p ∷ others) = IsPlaced pool steps least p × ArePlaced pool steps (p.at + 1) others

-- the least offset that a frame after these may have
abbrev pub least_behind : ℕ → List Placed → ℕ
least_behind least [] = least
least_behind least (p ∷ others) = least_behind (p.at + 1) others
