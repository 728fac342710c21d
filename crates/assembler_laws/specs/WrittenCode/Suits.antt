-- Operands that a form of instructions may have (JVMS SE 8, 6.5).
use Rattle.std.specs.Prelude.{◌≡◌, ℕ, List, [], ◌∷◌, ◌+◌, length, Some}
use Rattle.instructions.specs.declared.form.Form.{Form}
use Rattle.instructions.specs.declared.form.Form.TheVariants as forms
use Rattle.instructions.specs.Table.{Instruction, row_numbered}
use Rattle.code_write.specs.declared.operands.Operands.{Operands}
use Rattle.code_write.specs.declared.operands.Operands.TheVariants.{Absent, Byte, Short, ByteIndex, Index, Local, WideLocal, Increment, WideIncrement, Near, Far, TableSwitch, LookupSwitch, InterfaceCall, NewArray}
use Rattle.code_write.specs.declared.operands.Written.{Written}
use Rattle.code_write.specs.Instruction.{instruction_bytes, IsInRange, HasWidths}

-- operands of the kind that the form has
abbrev pub Suits : Form → Operands ℕ → Type 0
Suits (forms.Plain plain) Absent = Unit {0}
Suits (forms.FixedInt n) Absent = Unit {0}
Suits (forms.FixedLong n) Absent = Unit {0}
Suits (forms.FixedLocal access local) Absent = Unit {0}
Suits forms.ByteInt (Byte n) = Unit {0}
Suits forms.ShortInt (Short n) = Unit {0}
Suits forms.ByteConstant (ByteIndex index) = Unit {0}
Suits forms.Constant (Index index) = Unit {0}
Suits forms.LongConstant (Index index) = Unit {0}
Suits (forms.Local access) (Local local) = Unit {0}
Suits (forms.Local access) (WideLocal local) = Unit {0}
Suits forms.Increment (Increment local by) = Unit {0}
Suits forms.Increment (WideIncrement local by) = Unit {0}
Suits (forms.Branch test) (Near target) = Unit {0}
Suits (forms.FarBranch test) (Far target) = Unit {0}
Suits forms.TableSwitch (TableSwitch default low targets) = Unit {0}
Suits forms.LookupSwitch (LookupSwitch default cases) = Unit {0}
Suits (forms.Field access) (Index index) = Unit {0}
Suits (forms.Call call) (Index index) = Unit {0}
Suits forms.InterfaceCall (InterfaceCall index count) = Unit {0}
Suits (forms.Class purpose) (Index index) = Unit {0}
Suits forms.NewArray (NewArray element) = Unit {0}
Suits _ _ = ⊥

-- an instruction of the table at an offset, whose operands suit it and have room
pub record IsSuited (at : ℕ) (w : Written ℕ) : Type 0 where
  pub row : Instruction
  pub numbered : row_numbered w.number ≡ Some row
  pub suits : Suits row.form w.operands
  pub in_range : IsInRange at w.operands
  pub widths : HasWidths w.operands

-- instructions one after another, the first at this offset
abbrev pub AreSuited : ℕ → List (Written ℕ) → Type 0
AreSuited at [] = Unit {0}
AreSuited at (w ∷ others) = IsSuited at w × AreSuited (at + length (instruction_bytes at w)) others
