-- The instructions of the Java virtual machine that are executed (JVMS SE 8, 6.5 and 7): number, mnemonic, and
-- the form of the operands.
use Prim.Native.String.{String}
use Rattle.std.specs.Prelude.{ℕ, pos, negsuc, ◌==◌, List, [], ◌∷◌, Option, Some, None, find, map, codes, bytes_eq, if◌then◌else◌}
use Rattle.std.specs.List.{range_with_len}
use Rattle.instructions.specs.declared.form.Form.{Form}
use Rattle.instructions.specs.declared.form.Form.TheVariants as forms
use Rattle.instructions.specs.declared.form.Row.{Row}
use Rattle.instructions.specs.declared.operation.Plain.TheVariants as plain
use Rattle.instructions.specs.declared.operation.ValueKind.TheVariants as values
use Rattle.instructions.specs.declared.operation.ElementKind.TheVariants as elements
use Rattle.instructions.specs.declared.operation.StackOperation.TheVariants as stack
use Rattle.instructions.specs.declared.operation.Arithmetic.TheVariants as arithmetic
use Rattle.instructions.specs.declared.operation.Shift.TheVariants as shifts
use Rattle.instructions.specs.declared.operation.Conversion.TheVariants as conversions
use Rattle.instructions.specs.declared.operation.Condition.TheVariants as conditions
use Rattle.instructions.specs.declared.operation.Test.TheVariants as tests
use Rattle.instructions.specs.declared.operation.LocalAccess.TheVariants as access
use Rattle.instructions.specs.declared.operation.FieldAccess.TheVariants as fields
use Rattle.instructions.specs.declared.operation.Call.TheVariants as calls
use Rattle.instructions.specs.declared.operation.ClassUse.TheVariants as classes

pub record Instruction : Type 0 where
  pub number : ℕ
  pub mnemonic : List ℕ
  pub form : Form

abbrev pub row : ℕ → String → Form → Instruction
row number mnemonic form = record { number = number; mnemonic = codes mnemonic; form = form }

unfoldable pub table : List Instruction
table =
    row 0 "nop" (forms.Plain plain.Nop) ∷
    row 1 "aconst_null" (forms.Plain plain.Null) ∷
    row 2 "iconst_m1" (forms.FixedInt (negsuc 0)) ∷
    row 3 "iconst_0" (forms.FixedInt (pos 0)) ∷
    row 4 "iconst_1" (forms.FixedInt (pos 1)) ∷
    row 5 "iconst_2" (forms.FixedInt (pos 2)) ∷
    row 6 "iconst_3" (forms.FixedInt (pos 3)) ∷
    row 7 "iconst_4" (forms.FixedInt (pos 4)) ∷
    row 8 "iconst_5" (forms.FixedInt (pos 5)) ∷
    row 9 "lconst_0" (forms.FixedLong (pos 0)) ∷
    row 10 "lconst_1" (forms.FixedLong (pos 1)) ∷
    row 16 "bipush" forms.ByteInt ∷
    row 17 "sipush" forms.ShortInt ∷
    row 18 "ldc" forms.ByteConstant ∷
    row 19 "ldc_w" forms.Constant ∷
    row 20 "ldc2_w" forms.LongConstant ∷
    row 21 "iload" (forms.Local (access.Load values.Int)) ∷
    row 22 "lload" (forms.Local (access.Load values.Long)) ∷
    row 25 "aload" (forms.Local (access.Load values.Reference)) ∷
    row 26 "iload_0" (forms.FixedLocal (access.Load values.Int) 0) ∷
    row 27 "iload_1" (forms.FixedLocal (access.Load values.Int) 1) ∷
    row 28 "iload_2" (forms.FixedLocal (access.Load values.Int) 2) ∷
    row 29 "iload_3" (forms.FixedLocal (access.Load values.Int) 3) ∷
    row 30 "lload_0" (forms.FixedLocal (access.Load values.Long) 0) ∷
    row 31 "lload_1" (forms.FixedLocal (access.Load values.Long) 1) ∷
    row 32 "lload_2" (forms.FixedLocal (access.Load values.Long) 2) ∷
    row 33 "lload_3" (forms.FixedLocal (access.Load values.Long) 3) ∷
    row 42 "aload_0" (forms.FixedLocal (access.Load values.Reference) 0) ∷
    row 43 "aload_1" (forms.FixedLocal (access.Load values.Reference) 1) ∷
    row 44 "aload_2" (forms.FixedLocal (access.Load values.Reference) 2) ∷
    row 45 "aload_3" (forms.FixedLocal (access.Load values.Reference) 3) ∷
    row 46 "iaload" (forms.Plain (plain.ArrayLoad elements.Int)) ∷
    row 47 "laload" (forms.Plain (plain.ArrayLoad elements.Long)) ∷
    row 50 "aaload" (forms.Plain (plain.ArrayLoad elements.Reference)) ∷
    row 51 "baload" (forms.Plain (plain.ArrayLoad elements.ByteOrBoolean)) ∷
    row 52 "caload" (forms.Plain (plain.ArrayLoad elements.Char)) ∷
    row 53 "saload" (forms.Plain (plain.ArrayLoad elements.Short)) ∷
    row 54 "istore" (forms.Local (access.Store values.Int)) ∷
    row 55 "lstore" (forms.Local (access.Store values.Long)) ∷
    row 58 "astore" (forms.Local (access.Store values.Reference)) ∷
    row 59 "istore_0" (forms.FixedLocal (access.Store values.Int) 0) ∷
    row 60 "istore_1" (forms.FixedLocal (access.Store values.Int) 1) ∷
    row 61 "istore_2" (forms.FixedLocal (access.Store values.Int) 2) ∷
    row 62 "istore_3" (forms.FixedLocal (access.Store values.Int) 3) ∷
    row 63 "lstore_0" (forms.FixedLocal (access.Store values.Long) 0) ∷
    row 64 "lstore_1" (forms.FixedLocal (access.Store values.Long) 1) ∷
    row 65 "lstore_2" (forms.FixedLocal (access.Store values.Long) 2) ∷
    row 66 "lstore_3" (forms.FixedLocal (access.Store values.Long) 3) ∷
    row 75 "astore_0" (forms.FixedLocal (access.Store values.Reference) 0) ∷
    row 76 "astore_1" (forms.FixedLocal (access.Store values.Reference) 1) ∷
    row 77 "astore_2" (forms.FixedLocal (access.Store values.Reference) 2) ∷
    row 78 "astore_3" (forms.FixedLocal (access.Store values.Reference) 3) ∷
    row 79 "iastore" (forms.Plain (plain.ArrayStore elements.Int)) ∷
    row 80 "lastore" (forms.Plain (plain.ArrayStore elements.Long)) ∷
    row 83 "aastore" (forms.Plain (plain.ArrayStore elements.Reference)) ∷
    row 84 "bastore" (forms.Plain (plain.ArrayStore elements.ByteOrBoolean)) ∷
    row 85 "castore" (forms.Plain (plain.ArrayStore elements.Char)) ∷
    row 86 "sastore" (forms.Plain (plain.ArrayStore elements.Short)) ∷
    row 87 "pop" (forms.Plain (plain.Stack stack.Pop)) ∷
    row 88 "pop2" (forms.Plain (plain.Stack stack.Pop2)) ∷
    row 89 "dup" (forms.Plain (plain.Stack stack.Dup)) ∷
    row 90 "dup_x1" (forms.Plain (plain.Stack stack.DupX1)) ∷
    row 91 "dup_x2" (forms.Plain (plain.Stack stack.DupX2)) ∷
    row 92 "dup2" (forms.Plain (plain.Stack stack.Dup2)) ∷
    row 93 "dup2_x1" (forms.Plain (plain.Stack stack.Dup2X1)) ∷
    row 94 "dup2_x2" (forms.Plain (plain.Stack stack.Dup2X2)) ∷
    row 95 "swap" (forms.Plain (plain.Stack stack.Swap)) ∷
    row 96 "iadd" (forms.Plain (plain.IntArithmetic arithmetic.Add)) ∷
    row 97 "ladd" (forms.Plain (plain.LongArithmetic arithmetic.Add)) ∷
    row 100 "isub" (forms.Plain (plain.IntArithmetic arithmetic.Subtract)) ∷
    row 101 "lsub" (forms.Plain (plain.LongArithmetic arithmetic.Subtract)) ∷
    row 104 "imul" (forms.Plain (plain.IntArithmetic arithmetic.Multiply)) ∷
    row 105 "lmul" (forms.Plain (plain.LongArithmetic arithmetic.Multiply)) ∷
    row 108 "idiv" (forms.Plain (plain.IntArithmetic arithmetic.Divide)) ∷
    row 109 "ldiv" (forms.Plain (plain.LongArithmetic arithmetic.Divide)) ∷
    row 112 "irem" (forms.Plain (plain.IntArithmetic arithmetic.Remainder)) ∷
    row 113 "lrem" (forms.Plain (plain.LongArithmetic arithmetic.Remainder)) ∷
    row 116 "ineg" (forms.Plain plain.IntNegate) ∷
    row 117 "lneg" (forms.Plain plain.LongNegate) ∷
    row 120 "ishl" (forms.Plain (plain.IntShift shifts.Left)) ∷
    row 121 "lshl" (forms.Plain (plain.LongShift shifts.Left)) ∷
    row 122 "ishr" (forms.Plain (plain.IntShift shifts.Right)) ∷
    row 123 "lshr" (forms.Plain (plain.LongShift shifts.Right)) ∷
    row 124 "iushr" (forms.Plain (plain.IntShift shifts.UnsignedRight)) ∷
    row 125 "lushr" (forms.Plain (plain.LongShift shifts.UnsignedRight)) ∷
    row 126 "iand" (forms.Plain (plain.IntArithmetic arithmetic.And)) ∷
    row 127 "land" (forms.Plain (plain.LongArithmetic arithmetic.And)) ∷
    row 128 "ior" (forms.Plain (plain.IntArithmetic arithmetic.Or)) ∷
    row 129 "lor" (forms.Plain (plain.LongArithmetic arithmetic.Or)) ∷
    row 130 "ixor" (forms.Plain (plain.IntArithmetic arithmetic.Xor)) ∷
    row 131 "lxor" (forms.Plain (plain.LongArithmetic arithmetic.Xor)) ∷
    row 132 "iinc" forms.Increment ∷
    row 133 "i2l" (forms.Plain (plain.Convert conversions.IntToLong)) ∷
    row 136 "l2i" (forms.Plain (plain.Convert conversions.LongToInt)) ∷
    row 145 "i2b" (forms.Plain (plain.Convert conversions.IntToByte)) ∷
    row 146 "i2c" (forms.Plain (plain.Convert conversions.IntToChar)) ∷
    row 147 "i2s" (forms.Plain (plain.Convert conversions.IntToShort)) ∷
    row 148 "lcmp" (forms.Plain plain.LongCompare) ∷
    row 153 "ifeq" (forms.Branch (tests.Zero conditions.Equal)) ∷
    row 154 "ifne" (forms.Branch (tests.Zero conditions.NotEqual)) ∷
    row 155 "iflt" (forms.Branch (tests.Zero conditions.Less)) ∷
    row 156 "ifge" (forms.Branch (tests.Zero conditions.GreaterOrEqual)) ∷
    row 157 "ifgt" (forms.Branch (tests.Zero conditions.Greater)) ∷
    row 158 "ifle" (forms.Branch (tests.Zero conditions.LessOrEqual)) ∷
    row 159 "if_icmpeq" (forms.Branch (tests.Ints conditions.Equal)) ∷
    row 160 "if_icmpne" (forms.Branch (tests.Ints conditions.NotEqual)) ∷
    row 161 "if_icmplt" (forms.Branch (tests.Ints conditions.Less)) ∷
    row 162 "if_icmpge" (forms.Branch (tests.Ints conditions.GreaterOrEqual)) ∷
    row 163 "if_icmpgt" (forms.Branch (tests.Ints conditions.Greater)) ∷
    row 164 "if_icmple" (forms.Branch (tests.Ints conditions.LessOrEqual)) ∷
    row 165 "if_acmpeq" (forms.Branch tests.Same) ∷
    row 166 "if_acmpne" (forms.Branch tests.Different) ∷
    row 167 "goto" (forms.Branch tests.Always) ∷
    row 170 "tableswitch" forms.TableSwitch ∷
    row 171 "lookupswitch" forms.LookupSwitch ∷
    row 172 "ireturn" (forms.Plain (plain.Return (Some values.Int))) ∷
    row 173 "lreturn" (forms.Plain (plain.Return (Some values.Long))) ∷
    row 176 "areturn" (forms.Plain (plain.Return (Some values.Reference))) ∷
    row 177 "return" (forms.Plain (plain.Return None)) ∷
    row 178 "getstatic" (forms.Field fields.GetStatic) ∷
    row 179 "putstatic" (forms.Field fields.PutStatic) ∷
    row 180 "getfield" (forms.Field fields.GetField) ∷
    row 181 "putfield" (forms.Field fields.PutField) ∷
    row 182 "invokevirtual" (forms.Call calls.Virtual) ∷
    row 183 "invokespecial" (forms.Call calls.Special) ∷
    row 184 "invokestatic" (forms.Call calls.Static) ∷
    row 185 "invokeinterface" forms.InterfaceCall ∷
    row 187 "new" (forms.Class classes.New) ∷
    row 188 "newarray" forms.NewArray ∷
    row 189 "anewarray" (forms.Class classes.NewArray) ∷
    row 190 "arraylength" (forms.Plain plain.ArrayLength) ∷
    row 191 "athrow" (forms.Plain plain.Throw) ∷
    row 192 "checkcast" (forms.Class classes.CheckCast) ∷
    row 193 "instanceof" (forms.Class classes.InstanceOf) ∷
    row 194 "monitorenter" (forms.Plain plain.MonitorEnter) ∷
    row 195 "monitorexit" (forms.Plain plain.MonitorExit) ∷
    row 196 "wide" forms.Wide ∷
    row 198 "ifnull" (forms.Branch tests.Null) ∷
    row 199 "ifnonnull" (forms.Branch tests.NonNull) ∷
    row 200 "goto_w" (forms.FarBranch tests.Always) ∷
    []

-- the instruction of a number, and of a mnemonic
abbrev pub row_numbered : ℕ → Option Instruction
row_numbered number = find (λ i. i.number == number) table

abbrev pub row_named : List ℕ → Option Instruction
row_named mnemonic = find (λ i. bytes_eq i.mnemonic mnemonic) table

-- what a program sees of a `Row`
abbrev pub shown_row : Row → Instruction
shown_row r = record { number = r.number; mnemonic = r.mnemonic.now; form = r.form }

-- the table with a place for each number up to 201 (JVMS 7)
unfoldable pub numbered_rows : List (Option Instruction)
numbered_rows = map row_numbered (range_with_len 0 202)

-- the first row of a mnemonic
abbrev pub first_named : List ℕ → List (Option Row) → Option Row
first_named mnemonic [] = None
first_named mnemonic (None ∷ rows) = first_named mnemonic rows
first_named mnemonic (Some r ∷ rows) = if bytes_eq r.mnemonic.now mnemonic then Some r else first_named mnemonic rows
