-- What holds of the instructions of a code array (JVMS SE 8, 4.9.1).
use Rattle.std.specs.Prelude.{◌≡◌, ℕ, ◌+◌, ◌<◌, ◌≤◌, List, length, Some, slice_get}
use Rattle.class_walk.specs.declared.class.Constant.{Constant}
use Rattle.code_steps.specs.Operands.{IsLoadable, IsLong, IsField, IsMethodFor, IsInterfaceCall, IsClassFor}
use Rattle.instructions.specs.declared.what.Instr.{Instr}
use Rattle.instructions.specs.declared.what.Target.{Target}
use Rattle.instructions.specs.declared.what.What.{What}
use Rattle.instructions.specs.declared.what.What.TheVariants as whats
use Rattle.instructions.specs.Steps.{number_at}

-- a method of an interface, which invokeinterface may call
abbrev pub IsInterfaceMethodFor : List Constant → ℕ → Type 0
IsInterfaceMethodFor pool index = (count : ℕ) × IsInterfaceCall pool index count 0

-- what the instruction names in the constant pool is of the kind that it wants
abbrev pub NamesRightly : {T : Type 0} → List Constant → What T → Type 0
NamesRightly pool (whats.Constant index) = IsLoadable pool index
NamesRightly pool (whats.LongConstant index) = IsLong pool index
NamesRightly pool (whats.Field access index) = IsField pool index
NamesRightly pool (whats.Call call index) = IsMethodFor pool call index
NamesRightly pool (whats.InterfaceCall index) = IsInterfaceMethodFor pool index
NamesRightly pool (whats.Class purpose index) = IsClassFor pool purpose index
NamesRightly pool _ = Unit {0}

-- the instruction of this number is at this offset
abbrev pub StandsAt : List (Instr Target) → ℕ → ℕ → Type 0
StandsAt steps k at = (i : Instr Target) × (slice_get steps k ≡ Some i) × (i.at ≡ at)

-- the target is an instruction of the code, by its number and by its offset
abbrev pub LeadsInside : List (Instr Target) → Target → Type 0
LeadsInside steps target = StandsAt steps target.step target.at

-- an instruction of this number is in a code of size bytes, and the next one comes after it
pub record StandsInside (size : ℕ) (steps : List (Instr Target)) (k : ℕ) (i : Instr Target) : Type 0 where
  pub numbered : number_at steps i.at ≡ Some k
  pub ordered : i.at < i.next
  pub inside : i.next ≤ size
  pub next : (j : Instr Target) → slice_get steps (k + 1) ≡ Some j → j.at ≡ i.next
  pub last : k + 1 ≡ length steps → i.next ≡ size
