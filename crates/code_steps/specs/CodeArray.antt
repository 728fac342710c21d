-- What the code array of a method is (JVMS SE 8, 4.7.3 and 4.9.1).
use Rattle.std.specs.Prelude.{◌≡◌, ℕ, ◌+◌, ◌<◌, ◌≤◌, ℤ, pos, List, [], ◌∷◌, ◌++◌, length, drop, map, Some}
use Rattle.std.specs.List.{AllByRecursion}
use Rattle.class_walk.specs.declared.class.Constant.{Constant}
use Rattle.instructions.specs.declared.what.Case.{Case}
use Rattle.instructions.specs.declared.what.Instr.{Instr}
use Rattle.instructions.specs.declared.what.Target.{Target}
use Rattle.instructions.specs.declared.what.What.{What}
use Rattle.instructions.specs.declared.what.What.TheVariants.{Plain, Int, Long, Constant as Loaded, LongConstant, Local, Increment, Branch, TableSwitch, LookupSwitch, Field, Call, InterfaceCall, Class, NewArray}
use Rattle.instructions.specs.Table.{Instruction, row_numbered}
use Rattle.instructions.specs.Steps.{number_at}
use Rattle.instructions.specs.What.{targets_of}
use Rattle.code_steps.specs.Operands.{IsOperands}

-- an instruction is where it says it is: the number of a row of the table, and operands of its form
pub record IsInstruction (pool : List Constant) (code : List ℕ) (i : Instr ℤ) : Type 0 where
  pub number : ℕ
  pub row : Instruction
  pub operands : List ℕ
  pub numbered : row_numbered number ≡ Some row
  pub right : IsOperands pool i.at row.form i.what operands
  pub spelled : drop i.at code ≡ number ∷ (operands ++ drop i.next code)
  pub ends : i.next ≡ i.at + 1 + length operands

-- instructions one after another, from one offset to another
abbrev pub AreLaidOut : List Constant → List ℕ → ℕ → List (Instr ℤ) → ℕ → Type 0
AreLaidOut pool code from [] to = from ≡ to
AreLaidOut pool code from (i ∷ others) to = (i.at ≡ from) × IsInstruction pool code i × AreLaidOut pool code i.next others to

abbrev pub with_target : {A B : Type 0} → (A → B) → Case A → Case B
with_target f c = record { key = c.key; target = f c.target }

-- the same with other targets
abbrev pub with_targets : {A B : Type 0} → (A → B) → What A → What B
with_targets f (Plain plain) = Plain plain
with_targets f (Int n) = Int n
with_targets f (Long n) = Long n
with_targets f (Loaded index) = Loaded index
with_targets f (LongConstant index) = LongConstant index
with_targets f (Local access local) = Local access local
with_targets f (Increment local by) = Increment local by
with_targets f (Branch test target) = Branch test (f target)
with_targets f (TableSwitch default low targets) = TableSwitch (f default) low (map f targets)
with_targets f (LookupSwitch default cases) = LookupSwitch (f default) (map (with_target f) cases)
with_targets f (Field access index) = Field access index
with_targets f (Call call index) = Call call index
with_targets f (InterfaceCall index) = InterfaceCall index
with_targets f (Class purpose index) = Class purpose index
with_targets f (NewArray element) = NewArray element

-- the instruction with the offsets of its targets alone
abbrev pub by_offsets : Instr Target → Instr ℤ
by_offsets i = record { at = i.at; next = i.next; what = with_targets (λ (t : Target). pos t.at) i.what }

-- the target is the instruction of its number
abbrev pub IsAmong : List (Instr Target) → Target → Type 0
IsAmong steps target = number_at steps target.at ≡ Some target.step

-- the code array is these instructions
pub record IsCodeArray (pool : List Constant) (code : List ℕ) (steps : List (Instr Target)) : Type 0 where
  pub some : 0 < length code
  pub most : length code ≤ 65535
  pub laid : AreLaidOut pool code 0 (map by_offsets steps) (length code)
  pub targets : AllByRecursion (λ (i : Instr Target). AllByRecursion (IsAmong steps) (targets_of i.what)) steps
