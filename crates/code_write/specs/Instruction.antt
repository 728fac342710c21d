-- The bytes of an instruction (JVMS SE 8, 6.5).
use Rattle.std.specs.Prelude.{◌≡◌, ℕ, ◌+◌, ◌*◌, ◌<◌, ◌^◌, ℤ, pos, ◌+ℤ◌, ◌-ℤ◌, List, [], ◌∷◌, ◌++◌, length, take, replicate, All, FitsSigned}
use Rattle.std.specs.List.{flat_map}
use Rattle.std.specs.Int.{w8, w16, w32, cast_unsigned}
use Rattle.class_walk.specs.Layout.{u1, u2, u4}
use Rattle.instructions.specs.declared.operation.PrimitiveType.{PrimitiveType}
use Rattle.instructions.specs.declared.operation.PrimitiveType.TheVariants as primitives
use Rattle.instructions.specs.declared.what.Case.{Case}
use Rattle.code_steps.specs.Operands.{padding_of}
use Rattle.code_write.specs.declared.operands.Operands.{Operands}
use Rattle.code_write.specs.declared.operands.Operands.TheVariants.{Absent, Byte, Short, ByteIndex, Index, Local, WideLocal, Increment, WideIncrement, Near, Far, TableSwitch, LookupSwitch, InterfaceCall, NewArray}
use Rattle.code_write.specs.declared.operands.Written.{Written}
use Rattle.code_write.specs.declared.shape.Shape.{Shape}
use Rattle.code_write.specs.declared.shape.Shape.TheVariants as shapes

-- signed numbers of one, two and four bytes, in two's complement
abbrev pub s1 : ℤ → List ℕ
s1 n = u1 (cast_unsigned w8 n)

abbrev pub s2 : ℤ → List ℕ
s2 n = u2 (cast_unsigned w16 n)

abbrev pub s4 : ℤ → List ℕ
s4 n = u4 (cast_unsigned w32 n)

-- how far a target is from the instruction
abbrev pub distance : ℕ → ℕ → ℤ
distance at target = pos target -ℤ pos at

abbrev pub near_bytes : ℕ → ℕ → List ℕ
near_bytes at target = s2 (distance at target)

abbrev pub far_bytes : ℕ → ℕ → List ℕ
far_bytes at target = s4 (distance at target)

-- zeros up to the next offset that is a multiple of 4
abbrev pub padding_bytes : ℕ → List ℕ
padding_bytes at = replicate (padding_of at) 0

-- the key of the last target of a tableswitch
abbrev pub highest : ℤ → List ℕ → ℤ
highest low targets = low +ℤ pos (length targets) -ℤ pos 1

abbrev pub table_bytes : ℕ → ℕ → ℤ → List ℕ → List ℕ
table_bytes at default low targets =
    padding_bytes at ++ (far_bytes at default ++ (s4 low ++ (s4 (highest low targets) ++ flat_map (far_bytes at) targets)))

-- a key and the distance of its target
abbrev pub case_bytes : ℕ → Case ℕ → List ℕ
case_bytes at c = s4 c.key ++ far_bytes at c.target

abbrev pub lookup_bytes : ℕ → ℕ → List (Case ℕ) → List ℕ
lookup_bytes at default cases =
    padding_bytes at ++ (far_bytes at default ++ (u4 (length cases) ++ flat_map (case_bytes at) cases))

-- the codes of newarray (JVMS 6.5, table 6.5.newarray-A)
abbrev pub element_code : PrimitiveType → ℕ
element_code primitives.Boolean = 4
element_code primitives.Char = 5
element_code primitives.Byte = 8
element_code primitives.Short = 9
element_code primitives.Int = 10
element_code primitives.Long = 11

-- the operands of an instruction at this offset
abbrev pub operand_bytes : ℕ → Operands ℕ → List ℕ
operand_bytes at Absent = []
operand_bytes at (Byte n) = s1 n
operand_bytes at (Short n) = s2 n
operand_bytes at (ByteIndex index) = u1 index
operand_bytes at (Index index) = u2 index
operand_bytes at (Local local) = u1 local
operand_bytes at (WideLocal local) = u2 local
operand_bytes at (Increment local by) = u1 local ++ s1 by
operand_bytes at (WideIncrement local by) = u2 local ++ s2 by
operand_bytes at (Near target) = near_bytes at target
operand_bytes at (Far target) = far_bytes at target
operand_bytes at (TableSwitch default low targets) = table_bytes at default low targets
operand_bytes at (LookupSwitch default cases) = lookup_bytes at default cases
operand_bytes at (InterfaceCall index count) = u2 index ++ (u1 count ++ u1 0)
operand_bytes at (NewArray element) = u1 (element_code element)

-- the number of wide, before operands that are those of a widened instruction
abbrev pub wide_bytes : Operands ℕ → List ℕ
wide_bytes (WideLocal local) = 196 ∷ []
wide_bytes (WideIncrement local by) = 196 ∷ []
wide_bytes _ = []

-- an instruction at this offset
abbrev pub instruction_bytes : ℕ → Written ℕ → List ℕ
instruction_bytes at w = wide_bytes w.operands ++ (w.number ∷ operand_bytes at w.operands)

-- the distance has room in four bytes
abbrev pub IsFar : ℕ → ℕ → Type 0
IsFar at target = FitsSigned w32 (distance at target)

pub record IsTableInRange (at default : ℕ) (low : ℤ) (targets : List ℕ) : Type 0 where
  pub count : length targets < 2 ^ 32
  pub highest_fits : FitsSigned w32 (highest low targets)
  pub default_fits : IsFar at default
  pub targets_fit : All (IsFar at) targets

abbrev pub IsCaseInRange : ℕ → Case ℕ → Type 0
IsCaseInRange at c = IsFar at c.target

pub record IsLookupInRange (at default : ℕ) (cases : List (Case ℕ)) : Type 0 where
  pub count : length cases < 2 ^ 32
  pub default_fits : IsFar at default
  pub cases_fit : All (IsCaseInRange at) cases

-- each operand has room for what is computed for it: a distance, the highest key, a count
abbrev pub IsInRange : ℕ → Operands ℕ → Type 0
IsInRange at (Near target) = FitsSigned w16 (distance at target)
IsInRange at (Far target) = IsFar at target
IsInRange at (TableSwitch default low targets) = IsTableInRange at default low targets
IsInRange at (LookupSwitch default cases) = IsLookupInRange at default cases
IsInRange at _ = Unit {0}

abbrev pub HasKey : Case ℕ → Type 0
HasKey c = FitsSigned w32 c.key

-- the other numbers have the width of their operands, as their types say
abbrev pub HasWidths : Operands ℕ → Type 0
HasWidths (Byte n) = FitsSigned w8 n
HasWidths (Short n) = FitsSigned w16 n
HasWidths (ByteIndex index) = index < 2 ^ 8
HasWidths (Index index) = index < 2 ^ 16
HasWidths (Local local) = local < 2 ^ 8
HasWidths (WideLocal local) = local < 2 ^ 16
HasWidths (Increment local by) = (local < 2 ^ 8) × FitsSigned w8 by
HasWidths (WideIncrement local by) = (local < 2 ^ 16) × FitsSigned w16 by
HasWidths (TableSwitch default low targets) = FitsSigned w32 low
HasWidths (LookupSwitch default cases) = All HasKey cases
HasWidths (InterfaceCall index count) = (index < 2 ^ 16) × (count < 2 ^ 8)
HasWidths _ = Unit {0}

-- what the size of an instruction depends on beside its offset: how many bytes it has, with wide before it, or
-- how many targets a switch has beside the default one
abbrev pub shape : {T : Type 0} → Operands T → Shape
shape Absent = shapes.Fixed 1
shape (Byte n) = shapes.Fixed 2
shape (Short n) = shapes.Fixed 3
shape (ByteIndex index) = shapes.Fixed 2
shape (Index index) = shapes.Fixed 3
shape (Local local) = shapes.Fixed 2
shape (WideLocal local) = shapes.Fixed 4
shape (Increment local by) = shapes.Fixed 3
shape (WideIncrement local by) = shapes.Fixed 6
shape (Near target) = shapes.Fixed 3
shape (Far target) = shapes.Fixed 5
shape (TableSwitch default low targets) = shapes.TableSwitch (length targets)
shape (LookupSwitch default cases) = shapes.LookupSwitch (length cases)
shape (InterfaceCall index count) = shapes.Fixed 5
shape (NewArray element) = shapes.Fixed 2

-- how many targets a switch has beside the default one
abbrev pub count : {T : Type 0} → Operands T → ℕ
count (TableSwitch default low targets) = length targets
count (LookupSwitch default cases) = length cases
count _ = 0

-- how many bytes an instruction of this shape has at this offset
abbrev pub size : ℕ → Shape → ℕ
size at (shapes.Fixed bytes) = bytes
size at (shapes.TableSwitch targets) = 1 + padding_of at + 12 + 4 * targets
size at (shapes.LookupSwitch cases) = 1 + padding_of at + 8 + 8 * cases

-- what was there is still at the front
pub record Keeps (old new : List ℕ) : Type 0 where
  pub front : take (length old) new ≡ old
