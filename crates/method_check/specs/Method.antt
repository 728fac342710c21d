-- A method that is checked, and what its refusal says.
use Rattle.std.specs.Prelude.{◌≡◌, ℕ, Some, map, slice_get}
use Rattle.instructions.specs.declared.what.Instr.{Instr}
use Rattle.instructions.specs.declared.what.Target.{Target}
use Rattle.code_decode.specs.declared.code.Code.{Code}
use Rattle.link_types.specs.declared.operands.Operand.{Operand}
use Rattle.type_rules.specs.declared.refusal.VerifyKind.{VerifyKind}
use Rattle.type_rules.specs.Environment.{Environment}
use Rattle.type_rules.specs.Environments.{typed_handler}
use Rattle.type_rules.specs.MapFrames.{item_type, map_frame_at}
use Rattle.type_rules.specs.TypeSafe.{IsFirstTypeFault}
use Rattle.typing_frames.specs.declared.stop.CheckStop.{CheckStop}
use Rattle.typing_frames.specs.declared.stop.CheckStop.TheVariants as stops
use Rattle.map_frames.specs.declared.entry.MethodEntry.{MethodEntry}
use Rattle.map_frames.specs.Here.{IsEntryOf}
use Rattle.step_frames.specs.Arrays.{MakesArray}
use Rattle.method_check.specs.declared.refusal.MethodRefusal.{MethodRefusal}
use Rattle.method_check.specs.declared.refusal.MethodRefusal.TheVariants.{NoMemory, At}

-- a method's code, and what it begins with, are those of the environment
pub record IsMethodOf (env : Environment) (operands : ℕ → Operand) (entry : MethodEntry) (code : Code) : Type 0 where
  pub begins : IsEntryOf env entry
  pub constructs : env.constructs ≡ entry.constructs
  pub maps : env.map_at ≡ map_frame_at (item_type operands entry.words.items) entry.constructs entry.values.items code.frames
  pub steps : env.steps ≡ code.steps
  pub handlers : env.handlers ≡ map (typed_handler operands) code.handlers
  pub arrays : (k : ℕ) (i : Instr Target) → slice_get env.steps k ≡ Some i → MakesArray env i.what

-- the first rule that fails is of this kind, at the instruction of this offset
pub record IsFaultAt (env : Environment) (kind : VerifyKind) (place : ℕ) : Type 0 where
  pub number : ℕ
  pub instruction : Instr Target
  pub first : IsFirstTypeFault env number kind instruction
  pub at : place ≡ instruction.at

-- nothing is said where there is no memory
abbrev pub TellsMethodFault : Environment → MethodRefusal → Type 0
TellsMethodFault env NoMemory = Unit {0}
TellsMethodFault env (At kind place) = IsFaultAt env kind place

-- the refusal of a check that stops at the instruction of an offset
abbrev pub refusal_of : CheckStop → ℕ → MethodRefusal
refusal_of stops.NoMemory place = NoMemory
refusal_of (stops.At kind) place = At kind place
