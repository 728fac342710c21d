-- Operands that need no entry of the pool: numbers, and targets as the offsets of labels.
use Rattle.std.specs.Prelude.{ℕ, ◌^◌, ℤ, Bool, nat_lt, if◌then◌else◌, List, [], ◌∷◌, Option, Some, None}
use Rattle.std.specs.Int.{Width, w8, w16}
use Rattle.assembler_lines.specs.declared.operation.LabelledCase.{LabelledCase}
use Rattle.assembler_lines.specs.Front.{◌>>=◌}
use Rattle.instructions.specs.declared.form.Form.{Form}
use Rattle.instructions.specs.declared.what.Case.{Case}
use Rattle.code_write.specs.declared.operands.Operands.{Operands}
use Rattle.code_write.specs.declared.operands.Operands.TheVariants.{Byte, Short, ByteIndex, Index, Local, WideLocal, Increment, WideIncrement, Near, Far, TableSwitch, LookupSwitch}
use Rattle.assembler_bodies.specs.Tests.{fits_signed}
use Rattle.assembler_bodies.specs.Labels.{Marks, has_one_byte, is_far}

-- each of some items
abbrev pub each : {A B : Type 0} → (A → Option B) → List A → Option (List B)
each find [] = Some []
each find (a ∷ items) = do
  first ← find a
  others ← each find items
  Some (first ∷ others)

-- the offset of a label that is there
unfoldable pub offset_of : Marks → List ℕ → Option ℕ
offset_of marks name = do
  mark ← marks name
  Some mark.offset

-- the same where it has two bytes
unfoldable pub short_offset_of : Marks → List ℕ → Option ℕ
short_offset_of marks name = do
  offset ← offset_of marks name
  if nat_lt offset (2 ^ 16) then Some offset else None

unfoldable pub case_of : Marks → LabelledCase → Option (Case ℕ)
case_of marks said = do
  target ← offset_of marks said.label
  Some (record { key = said.key; target = target })

-- an int that fits in w bits with its sign
unfoldable pub narrow : Width → ℤ → Option ℤ
narrow w n = if (fits_signed w n).holds then Some n else None

-- a local or an index that has room in one byte
unfoldable pub byte : ℕ → Option ℕ
byte n = if nat_lt n (2 ^ 8) then Some n else None

-- bipush has one byte for its int
abbrev pub one_byte_int : ℤ → Option (Operands ℕ)
one_byte_int int = do
  n ← narrow w8 int
  Some (Byte n)

-- sipush has two
abbrev pub two_byte_int : ℤ → Option (Operands ℕ)
two_byte_int int = do
  n ← narrow w16 int
  Some (Short n)

unfoldable pub int_operand : Form → ℤ → Option (Operands ℕ)
int_operand form int = if has_one_byte form then one_byte_int int else two_byte_int int

abbrev pub narrow_local : ℕ → Option (Operands ℕ)
narrow_local number = do
  local ← byte number
  Some (Local local)

unfoldable pub local_operand : Bool → ℕ → Option (Operands ℕ)
local_operand wide number = if wide then Some (WideLocal number) else narrow_local number

abbrev pub narrow_increment : ℕ → ℤ → Option (Operands ℕ)
narrow_increment number int = do
  local ← byte number
  by ← narrow w8 int
  Some (Increment local by)

unfoldable pub increment_operand : Bool → ℕ → ℤ → Option (Operands ℕ)
increment_operand wide number int = if wide then Some (WideIncrement number int) else narrow_increment number int

-- ldc has one byte for its index
abbrev pub narrow_index : ℕ → Option (Operands ℕ)
narrow_index number = do
  index ← byte number
  Some (ByteIndex index)

unfoldable pub constant_operand : Form → ℕ → Option (Operands ℕ)
constant_operand form index = if has_one_byte form then narrow_index index else Some (Index index)

unfoldable pub branch_operand : Marks → Form → List ℕ → Option (Operands ℕ)
branch_operand marks form label = do
  target ← offset_of marks label
  Some (if is_far form then Far target else Near target)

unfoldable pub table_operand : Marks → ℤ → List ℕ → List (List ℕ) → Option (Operands ℕ)
table_operand marks low label names = do
  default ← offset_of marks label
  targets ← each (offset_of marks) names
  Some (TableSwitch default low targets)

unfoldable pub lookup_operand : Marks → List ℕ → List LabelledCase → Option (Operands ℕ)
lookup_operand marks label said = do
  default ← offset_of marks label
  cases ← each (case_of marks) said
  Some (LookupSwitch default cases)
