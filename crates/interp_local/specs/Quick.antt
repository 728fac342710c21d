-- Instructions that one look identifies, and what they make of a frame.
use Rattle.std.specs.Prelude.{ℕ, suc, ◌∷◌, List, map, slice_get}
use Rattle.std.specs.Int.{w32, cast_unsigned}
use Rattle.code_decode.specs.declared.code.ClassUnit.{ClassUnit}
use Rattle.instructions.specs.declared.operation.Arithmetic.{Arithmetic}
use Rattle.instructions.specs.declared.operation.Arithmetic.TheVariants as ops
use Rattle.instructions.specs.declared.operation.Condition.{Condition}
use Rattle.instructions.specs.declared.operation.Condition.TheVariants as conditions
use Rattle.instructions.specs.declared.operation.Conversion.TheVariants as conversions
use Rattle.instructions.specs.declared.operation.LocalAccess.{LocalAccess}
use Rattle.instructions.specs.declared.operation.LocalAccess.TheVariants as accesses
use Rattle.instructions.specs.declared.operation.Plain.{Plain}
use Rattle.instructions.specs.declared.operation.Plain.TheVariants as plain
use Rattle.instructions.specs.declared.operation.Shift.{Shift}
use Rattle.instructions.specs.declared.operation.Shift.TheVariants as shifts
use Rattle.instructions.specs.declared.operation.StackOperation.TheVariants as stack_operations
use Rattle.instructions.specs.declared.operation.Test.{Test}
use Rattle.instructions.specs.declared.operation.Test.TheVariants as tests
use Rattle.instructions.specs.declared.operation.ValueKind.TheVariants as kinds
use Rattle.instructions.specs.declared.what.Instr.{Instr}
use Rattle.instructions.specs.declared.what.Target.{Target}
use Rattle.instructions.specs.declared.what.What.{What}
use Rattle.instructions.specs.declared.what.What.TheVariants as whats
use Rattle.java_rows.specs.LocalRows.{LocalRow, no_row, leaving, pushed, loaded, stored, long_loaded, long_stored, incremented, stack_row, rearranged, converted, int_arithmetic, int_shift, long_arithmetic, long_shift, long_compare, branch_row}
use Rattle.java_rows.specs.Plan.{Frame}
use Rattle.java_rows.specs.Program.{constant_at}
use Rattle.interp_local.specs.declared.quick.Quick.{Quick}
use Rattle.interp_local.specs.declared.quick.Quick.TheVariants as quicks

abbrev pub quick_arithmetic : Arithmetic → Quick
quick_arithmetic ops.Add = quicks.Add
quick_arithmetic ops.Subtract = quicks.Subtract
quick_arithmetic ops.Multiply = quicks.Multiply
quick_arithmetic ops.Divide = quicks.Divide
quick_arithmetic ops.Remainder = quicks.Remainder
quick_arithmetic ops.And = quicks.And
quick_arithmetic ops.Or = quicks.Or
quick_arithmetic ops.Xor = quicks.Xor

abbrev pub quick_long_arithmetic : Arithmetic → Quick
quick_long_arithmetic ops.Add = quicks.AddLongs
quick_long_arithmetic ops.Subtract = quicks.SubtractLongs
quick_long_arithmetic ops.Multiply = quicks.MultiplyLongs
quick_long_arithmetic ops.Divide = quicks.DivideLongs
quick_long_arithmetic ops.Remainder = quicks.RemainderLongs
quick_long_arithmetic ops.And = quicks.AndLongs
quick_long_arithmetic ops.Or = quicks.OrLongs
quick_long_arithmetic ops.Xor = quicks.XorLongs

abbrev pub quick_shift : Shift → Quick
quick_shift shifts.Left = quicks.ShiftLeft
quick_shift shifts.Right = quicks.ShiftRight
quick_shift shifts.UnsignedRight = quicks.ShiftRightUnsigned

abbrev pub quick_long_shift : Shift → Quick
quick_long_shift shifts.Left = quicks.ShiftLongLeft
quick_long_shift shifts.Right = quicks.ShiftLongRight
quick_long_shift shifts.UnsignedRight = quicks.ShiftLongRightUnsigned

abbrev pub quick_plain : Plain → Quick
quick_plain plain.Null = quicks.Push 0
quick_plain (plain.Stack stack_operations.Dup) = quicks.Duplicate
quick_plain (plain.IntArithmetic op) = quick_arithmetic op
quick_plain (plain.LongArithmetic op) = quick_long_arithmetic op
quick_plain (plain.IntShift op) = quick_shift op
quick_plain (plain.LongShift op) = quick_long_shift op
quick_plain plain.LongCompare = quicks.CompareLongs
quick_plain (plain.Convert conversions.IntToLong) = quicks.IntToLong
quick_plain (plain.Convert conversions.LongToInt) = quicks.LongToInt
quick_plain (plain.ArrayLoad kind) = quicks.Operation
quick_plain (plain.ArrayStore kind) = quicks.Operation
quick_plain plain.ArrayLength = quicks.Operation
quick_plain (plain.Return kind) = quicks.Operation
quick_plain plain.Throw = quicks.Operation
quick_plain plain.MonitorEnter = quicks.Operation
quick_plain plain.MonitorExit = quicks.Operation
quick_plain _ = quicks.Other

abbrev pub quick_local : LocalAccess → ℕ → Quick
quick_local (accesses.Load kinds.Long) n = quicks.LoadLong n
quick_local (accesses.Load _) n = quicks.Load n
quick_local (accesses.Store kinds.Long) n = quicks.StoreLong n
quick_local (accesses.Store _) n = quicks.Store n

abbrev pub quick_if : Condition → ℕ → Quick
quick_if conditions.Equal step = quicks.IfEqual step
quick_if conditions.NotEqual step = quicks.IfNotEqual step
quick_if conditions.Less step = quicks.IfLess step
quick_if conditions.GreaterOrEqual step = quicks.IfGreaterOrEqual step
quick_if conditions.Greater step = quicks.IfGreater step
quick_if conditions.LessOrEqual step = quicks.IfLessOrEqual step

abbrev pub quick_if_ints : Condition → ℕ → Quick
quick_if_ints conditions.Equal step = quicks.IfIntsEqual step
quick_if_ints conditions.NotEqual step = quicks.IfIntsNotEqual step
quick_if_ints conditions.Less step = quicks.IfIntsLess step
quick_if_ints conditions.GreaterOrEqual step = quicks.IfIntsGreaterOrEqual step
quick_if_ints conditions.Greater step = quicks.IfIntsGreater step
quick_if_ints conditions.LessOrEqual step = quicks.IfIntsLessOrEqual step

abbrev pub quick_branch : Test → ℕ → Quick
quick_branch (tests.Zero condition) step = quick_if condition step
quick_branch (tests.Ints condition) step = quick_if_ints condition step
quick_branch tests.Same step = quicks.IfSame step
quick_branch tests.Different step = quicks.IfDifferent step
quick_branch tests.Null step = quicks.IfNull step
quick_branch tests.NonNull step = quicks.IfNonNull step
quick_branch tests.Always step = quicks.Goto step

-- the same instruction in one look
abbrev pub quick_of : What Target → Quick
quick_of (whats.Plain op) = quick_plain op
quick_of (whats.Int n) = quicks.Push (cast_unsigned w32 n)
quick_of (whats.Constant index) = quicks.Constant index
quick_of (whats.LongConstant index) = quicks.Constant index
quick_of (whats.Local access n) = quick_local access n
quick_of (whats.Increment n by) = quicks.Increment n by
quick_of (whats.Branch test target) = quick_branch test target.step
quick_of (whats.Field access index) = quicks.Operation
quick_of (whats.Call call index) = quicks.Operation
quick_of (whats.InterfaceCall index) = quicks.Operation
quick_of (whats.Class purpose index) = quicks.Operation
quick_of (whats.NewArray kind) = quicks.Operation
quick_of _ = quicks.Other

-- each instruction of a method in one look
abbrev pub quicks_of : List (Instr Target) → List Quick
quicks_of steps = map (λ i. quick_of i.what) steps

abbrev pub branches_if : Frame → Test → ℕ → LocalRow
branches_if f test step = branch_row f test (record { at = 0; step = step }) f.stack

-- the row of the instruction, where it isn't Other
abbrev pub quick_row : List ClassUnit → Frame → Quick → LocalRow
quick_row us f (quicks.Load n) = loaded f f.stack (slice_get f.locals n)
quick_row us f (quicks.Store n) = stored f n f.stack
quick_row us f (quicks.Increment n by) = incremented f n by f.stack (slice_get f.locals n)
quick_row us f (quicks.LoadLong n) = long_loaded f f.stack (slice_get f.locals n) (slice_get f.locals (suc n))
quick_row us f (quicks.StoreLong n) = long_stored f n f.stack
quick_row us f (quicks.Push word) = leaving f (word ∷ f.stack)
quick_row us f (quicks.Constant index) = pushed f f.stack (constant_at us f.method.class index)
quick_row us f quicks.Duplicate = stack_row f (rearranged stack_operations.Dup f.stack)
quick_row us f quicks.Add = int_arithmetic f ops.Add f.stack
quick_row us f quicks.Subtract = int_arithmetic f ops.Subtract f.stack
quick_row us f quicks.Multiply = int_arithmetic f ops.Multiply f.stack
quick_row us f quicks.Divide = int_arithmetic f ops.Divide f.stack
quick_row us f quicks.Remainder = int_arithmetic f ops.Remainder f.stack
quick_row us f quicks.And = int_arithmetic f ops.And f.stack
quick_row us f quicks.Or = int_arithmetic f ops.Or f.stack
quick_row us f quicks.Xor = int_arithmetic f ops.Xor f.stack
quick_row us f quicks.ShiftLeft = int_shift f shifts.Left f.stack
quick_row us f quicks.ShiftRight = int_shift f shifts.Right f.stack
quick_row us f quicks.ShiftRightUnsigned = int_shift f shifts.UnsignedRight f.stack
quick_row us f quicks.AddLongs = long_arithmetic f ops.Add f.stack
quick_row us f quicks.SubtractLongs = long_arithmetic f ops.Subtract f.stack
quick_row us f quicks.MultiplyLongs = long_arithmetic f ops.Multiply f.stack
quick_row us f quicks.DivideLongs = long_arithmetic f ops.Divide f.stack
quick_row us f quicks.RemainderLongs = long_arithmetic f ops.Remainder f.stack
quick_row us f quicks.AndLongs = long_arithmetic f ops.And f.stack
quick_row us f quicks.OrLongs = long_arithmetic f ops.Or f.stack
quick_row us f quicks.XorLongs = long_arithmetic f ops.Xor f.stack
quick_row us f quicks.ShiftLongLeft = long_shift f shifts.Left f.stack
quick_row us f quicks.ShiftLongRight = long_shift f shifts.Right f.stack
quick_row us f quicks.ShiftLongRightUnsigned = long_shift f shifts.UnsignedRight f.stack
quick_row us f quicks.CompareLongs = long_compare f f.stack
quick_row us f quicks.IntToLong = stack_row f (converted conversions.IntToLong f.stack)
quick_row us f quicks.LongToInt = stack_row f (converted conversions.LongToInt f.stack)
quick_row us f (quicks.IfEqual step) = branches_if f (tests.Zero conditions.Equal) step
quick_row us f (quicks.IfNotEqual step) = branches_if f (tests.Zero conditions.NotEqual) step
quick_row us f (quicks.IfLess step) = branches_if f (tests.Zero conditions.Less) step
quick_row us f (quicks.IfGreaterOrEqual step) = branches_if f (tests.Zero conditions.GreaterOrEqual) step
quick_row us f (quicks.IfGreater step) = branches_if f (tests.Zero conditions.Greater) step
quick_row us f (quicks.IfLessOrEqual step) = branches_if f (tests.Zero conditions.LessOrEqual) step
quick_row us f (quicks.IfIntsEqual step) = branches_if f (tests.Ints conditions.Equal) step
quick_row us f (quicks.IfIntsNotEqual step) = branches_if f (tests.Ints conditions.NotEqual) step
quick_row us f (quicks.IfIntsLess step) = branches_if f (tests.Ints conditions.Less) step
quick_row us f (quicks.IfIntsGreaterOrEqual step) = branches_if f (tests.Ints conditions.GreaterOrEqual) step
quick_row us f (quicks.IfIntsGreater step) = branches_if f (tests.Ints conditions.Greater) step
quick_row us f (quicks.IfIntsLessOrEqual step) = branches_if f (tests.Ints conditions.LessOrEqual) step
quick_row us f (quicks.IfSame step) = branches_if f tests.Same step
quick_row us f (quicks.IfDifferent step) = branches_if f tests.Different step
quick_row us f (quicks.IfNull step) = branches_if f tests.Null step
quick_row us f (quicks.IfNonNull step) = branches_if f tests.NonNull step
quick_row us f (quicks.Goto step) = branches_if f tests.Always step
quick_row us f quicks.Operation = no_row
quick_row us f quicks.Other = no_row
