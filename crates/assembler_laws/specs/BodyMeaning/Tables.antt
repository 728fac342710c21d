-- What lines say of handlers and frames that are read (JVMS SE 8, 4.7.3 and 4.7.4).
use Rattle.std.specs.Prelude.{◌≡◌, ℕ, List, Option, Some, None}
use Rattle.std.specs.List.{AllZip}
use Rattle.class_walk.specs.declared.class.Constant.{Constant}
use Rattle.class_pool.specs.Pool.{IsClassAt}
use Rattle.instructions.specs.declared.what.Instr.{Instr}
use Rattle.instructions.specs.declared.what.Target.{Target}
use Rattle.instructions.specs.Steps.{number_at}
use Rattle.code_frames.specs.declared.types.LocalsChange.TheVariants.{Full}
use Rattle.code_frames.specs.declared.types.MapFrame.{MapFrame}
use Rattle.code_frames.specs.declared.types.VType.{VType}
use Rattle.code_frames.specs.declared.types.VType.TheVariants as types
use Rattle.code_decode.specs.declared.code.Handler.{Handler}
use Rattle.assembler_lines.specs.declared.frame.FrameItem.{FrameItem}
use Rattle.assembler_lines.specs.declared.frame.FrameItem.TheVariants.{Top, Int, Long, Null, This, New, Class}
use Rattle.assembler_laws.specs.BodyMeaning.Parts.{Places, SaidHandler, SaidFrame}

-- the class of this name is caught, or everything
abbrev pub IsCaught : List Constant → Option (List ℕ) → ℕ → Type 0
IsCaught pool None kind = kind ≡ 0
IsCaught pool (Some class) kind = IsClassAt pool kind class

-- A line's handler is this one. Its range may end after the last instruction.
pub record SaysHandler (pool : List Constant) (places : Places) (said : SaidHandler) (h : Handler) : Type 0 where
  pub first : places said.from ≡ Some h.first
  pub end : places said.to ≡ Some h.end
  pub entry : places said.at ≡ Some h.entry
  pub caught : IsCaught pool said.class h.kind

-- a type as it is written, and as it is read
abbrev pub SaysType : List Constant → Places → List (Instr Target) → FrameItem → VType → Type 0
SaysType pool places steps Top t = t ≡ types.Top
SaysType pool places steps Int t = t ≡ types.Int
SaysType pool places steps Long t = t ≡ types.Long
SaysType pool places steps Null t = t ≡ types.Null
SaysType pool places steps This t = t ≡ types.UninitThis
SaysType pool places steps (New label) t = (at n : ℕ) × (t ≡ types.Uninit at) × (number_at steps at ≡ Some n) × (places label ≡ Some n)
SaysType pool places steps (Class name) t = (index : ℕ) × (t ≡ types.Object index) × IsClassAt pool index name

-- A line's frame is this one, and is at the instruction after the line.
pub record SaysFrame (pool : List Constant) (places : Places) (steps : List (Instr Target)) (said : SaidFrame) (f : MapFrame) : Type 0 where
  pub step : f.step ≡ said.step
  pub types : List VType
  pub locals : f.locals ≡ Full types
  pub locals_are : AllZip (SaysType pool places steps) said.locals types
  pub stack_is : AllZip (SaysType pool places steps) said.stack f.stack
