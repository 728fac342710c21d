-- What written instructions are to their reader (JVMS SE 8, 4.9.1 and 6.5).
use Rattle.std.specs.Prelude.{◌≡◌, ℕ, ◌+◌, ◌<◌, ℤ, pos, List, [], ◌∷◌, ◌++◌, length, map, Some, ◌⊎◌}
use Rattle.class_walk.specs.declared.class.Constant.{Constant}
use Rattle.instructions.specs.declared.form.Form.{Form}
use Rattle.instructions.specs.declared.form.Form.TheVariants as forms
use Rattle.instructions.specs.declared.operation.PrimitiveType.{PrimitiveType}
use Rattle.instructions.specs.declared.what.Case.{Case}
use Rattle.instructions.specs.declared.what.Instr.{Instr}
use Rattle.instructions.specs.declared.what.What.{What}
use Rattle.instructions.specs.declared.what.What.TheVariants as whats
use Rattle.instructions.specs.Table.{Instruction, row_numbered}
use Rattle.code_steps.specs.Operands.{IsLoadable, IsLong, IsField, IsMethodFor, IsInterfaceCall, IsClassFor, Rise}
use Rattle.code_steps.specs.CodeArray.{with_target}
use Rattle.code_write.specs.declared.operands.Operands.{Operands}
use Rattle.code_write.specs.declared.operands.Operands.TheVariants.{Absent, Byte, Short, ByteIndex, Index, Local, WideLocal, Increment, WideIncrement, Near, Far, TableSwitch, LookupSwitch, InterfaceCall, NewArray}
use Rattle.code_write.specs.declared.operands.Written.{Written}
use Rattle.code_write.specs.Instruction.{instruction_bytes, IsInRange, HasWidths}

abbrev pub targets_read : List ℕ → List ℤ
targets_read targets = map (λ t. pos t) targets

abbrev pub cases_read : List (Case ℕ) → List (Case ℤ)
cases_read cases = map (with_target (λ t. pos t)) cases

-- operands of a form make this instruction, and what they name in the pool is what the form wants; wide takes none
-- of its own
abbrev pub Means : List Constant → Form → Operands ℕ → What ℤ → Type 0
Means pool (forms.Plain plain) o what = (o ≡ Absent) × (what ≡ whats.Plain plain)
Means pool (forms.FixedInt n) o what = (o ≡ Absent) × (what ≡ whats.Int n)
Means pool (forms.FixedLong n) o what = (o ≡ Absent) × (what ≡ whats.Long n)
Means pool (forms.FixedLocal access local) o what = (o ≡ Absent) × (what ≡ whats.Local access local)
Means pool forms.ByteInt o what = (n : ℤ) × (o ≡ Byte n) × (what ≡ whats.Int n)
Means pool forms.ShortInt o what = (n : ℤ) × (o ≡ Short n) × (what ≡ whats.Int n)
Means pool forms.ByteConstant o what = (index : ℕ) × (o ≡ ByteIndex index) × (what ≡ whats.Constant index) × IsLoadable pool index
Means pool forms.Constant o what = (index : ℕ) × (o ≡ Index index) × (what ≡ whats.Constant index) × IsLoadable pool index
Means pool forms.LongConstant o what = (index : ℕ) × (o ≡ Index index) × (what ≡ whats.LongConstant index) × IsLong pool index
Means pool (forms.Local access) o what = (local : ℕ) × ((o ≡ Local local) ⊎ (o ≡ WideLocal local)) × (what ≡ whats.Local access local)
Means pool forms.Increment o what =
    (local : ℕ) × (by : ℤ) × ((o ≡ Increment local by) ⊎ (o ≡ WideIncrement local by)) × (what ≡ whats.Increment local by)
Means pool (forms.Branch test) o what = (target : ℕ) × (o ≡ Near target) × (what ≡ whats.Branch test (pos target))
Means pool (forms.FarBranch test) o what = (target : ℕ) × (o ≡ Far target) × (what ≡ whats.Branch test (pos target))
Means pool forms.TableSwitch o what = (default : ℕ) × (low : ℤ) × (targets : List ℕ) × (o ≡ TableSwitch default low targets)
    × (what ≡ whats.TableSwitch (pos default) low (targets_read targets)) × (0 < length targets)
Means pool forms.LookupSwitch o what = (default : ℕ) × (cases : List (Case ℕ)) × (o ≡ LookupSwitch default cases)
    × (what ≡ whats.LookupSwitch (pos default) (cases_read cases)) × Rise (cases_read cases)
Means pool (forms.Field access) o what = (index : ℕ) × (o ≡ Index index) × (what ≡ whats.Field access index) × IsField pool index
Means pool (forms.Call call) o what = (index : ℕ) × (o ≡ Index index) × (what ≡ whats.Call call index) × IsMethodFor pool call index
Means pool forms.InterfaceCall o what =
    (index count : ℕ) × (o ≡ InterfaceCall index count) × (what ≡ whats.InterfaceCall index) × IsInterfaceCall pool index count 0
Means pool (forms.Class purpose) o what =
    (index : ℕ) × (o ≡ Index index) × (what ≡ whats.Class purpose index) × IsClassFor pool purpose index
Means pool forms.NewArray o what = (element : PrimitiveType) × (o ≡ NewArray element) × (what ≡ whats.NewArray element)
Means pool forms.Wide o what = ⊥

-- a written instruction at this offset is this instruction of the table
pub record IsMeant (pool : List Constant) (at : ℕ) (w : Written ℕ) (what : What ℤ) : Type 0 where
  pub row : Instruction
  pub numbered : row_numbered w.number ≡ Some row
  pub in_range : IsInRange at w.operands
  pub widths : HasWidths w.operands
  pub means : Means pool row.form w.operands what

-- the bytes of consecutive instructions, the first at this offset
abbrev pub code_bytes : ℕ → List (Written ℕ) → List ℕ
code_bytes at [] = []
code_bytes at (w ∷ others) = instruction_bytes at w ++ code_bytes (at + length (instruction_bytes at w)) others

-- they are these instructions, each at the offset at which the one before it ends
abbrev pub AreMeant : List Constant → ℕ → List (Written ℕ) → List (Instr ℤ) → Type 0
AreMeant pool at [] steps = steps ≡ []
AreMeant pool at (w ∷ others) [] = ⊥
AreMeant pool at (w ∷ others) (i ∷ steps) =
    (i.at ≡ at) × (i.next ≡ at + length (instruction_bytes at w)) × IsMeant pool at w i.what
    × AreMeant pool (at + length (instruction_bytes at w)) others steps
