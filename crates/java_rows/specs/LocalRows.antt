-- The instructions that need no operation (JVMS 2.11.2 to 2.11.4, 2.11.6, 2.11.7, 6.5): what they make of a frame.
use Rattle.std.specs.Prelude.{ℕ, suc, ◌==◌, Bool, not, ℤ, Option, None, Some, List, ◌∷◌, ◌++◌, length, nat_le, nat_lt, slice_get, slice_set, if◌then◌else◌}
use Rattle.std.specs.Int.{w32, w64, cast_signed, cast_unsigned, int_wrapping_add}
use Rattle.builtin_world.specs.declared.number.TheConstants.{ARITHMETIC_EXCEPTION}
use Rattle.code_decode.specs.declared.code.ClassUnit.{ClassUnit}
use Rattle.instructions.specs.declared.operation.Arithmetic.{Arithmetic}
use Rattle.instructions.specs.declared.operation.Conversion.{Conversion}
use Rattle.instructions.specs.declared.operation.Conversion.TheVariants.{IntToLong, LongToInt, IntToByte, IntToChar, IntToShort}
use Rattle.instructions.specs.declared.operation.LocalAccess.{LocalAccess}
use Rattle.instructions.specs.declared.operation.LocalAccess.TheVariants.{Load, Store}
use Rattle.instructions.specs.declared.operation.Plain.{Plain}
use Rattle.instructions.specs.declared.operation.Plain.TheVariants as plain
use Rattle.instructions.specs.declared.operation.Shift.{Shift}
use Rattle.instructions.specs.declared.operation.StackOperation.{StackOperation}
use Rattle.instructions.specs.declared.operation.StackOperation.TheVariants.{Pop, Pop2, Dup, DupX1, DupX2, Dup2, Dup2X1, Dup2X2, Swap}
use Rattle.instructions.specs.declared.operation.Test.{Test}
use Rattle.instructions.specs.declared.operation.Test.TheVariants as tests
use Rattle.instructions.specs.declared.operation.ValueKind.TheVariants as kinds
use Rattle.instructions.specs.declared.what.Case.{Case}
use Rattle.instructions.specs.declared.what.Target.{Target}
use Rattle.instructions.specs.declared.what.What.{What}
use Rattle.instructions.specs.declared.what.What.TheVariants as whats
use Rattle.java_rows.specs.Numbers.{long_of, long_words, result_of, negative_of, int_shifted, long_shifted, holds, compared, byte_of, char_of, short_of, widened, table_target, case_target}
use Rattle.java_rows.specs.Plan.{at_step, Frame, after_step}
use Rattle.java_rows.specs.Program.{constant_at}

-- what an instruction that needs no operation makes of its frame
pub data LocalRow : Type 0 where
  -- the frame after it
  moves : Frame → LocalRow
  -- an exception of this class
  fails_by : ℕ → LocalRow
  -- it needs an operation, or an operand, a local or room is missing
  no_row : LocalRow

-- the next instruction follows with this stack, where there is room for it
abbrev pub leaving : Frame → List ℕ → LocalRow
leaving f stack = if nat_le (length stack) f.room then moves (after_step f stack) else no_row

-- the words of a value are pushed
abbrev pub pushed : Frame → List ℕ → Option (List ℕ) → LocalRow
pushed f stack (Some words) = leaving f (words ++ stack)
pushed f stack None = no_row

-- ---- the operand stack (JVMS 2.11.6)

abbrev pub rearranged : StackOperation → List ℕ → Option (List ℕ)
rearranged Pop (a ∷ rest) = Some rest
rearranged Pop2 (a ∷ b ∷ rest) = Some rest
rearranged Dup (a ∷ rest) = Some (a ∷ a ∷ rest)
rearranged DupX1 (a ∷ b ∷ rest) = Some (a ∷ b ∷ a ∷ rest)
rearranged DupX2 (a ∷ b ∷ c ∷ rest) = Some (a ∷ b ∷ c ∷ a ∷ rest)
rearranged Dup2 (a ∷ b ∷ rest) = Some (a ∷ b ∷ a ∷ b ∷ rest)
rearranged Dup2X1 (a ∷ b ∷ c ∷ rest) = Some (a ∷ b ∷ c ∷ a ∷ b ∷ rest)
rearranged Dup2X2 (a ∷ b ∷ c ∷ d ∷ rest) = Some (a ∷ b ∷ c ∷ d ∷ a ∷ b ∷ rest)
rearranged Swap (a ∷ b ∷ rest) = Some (b ∷ a ∷ rest)
rearranged _ _ = None

abbrev pub stack_row : Frame → Option (List ℕ) → LocalRow
stack_row f (Some stack) = leaving f stack
stack_row f None = no_row

-- ---- numbers (JVMS 2.11.3, 2.11.4)

-- the word of an int, the words of a long, or the exception where there is none
abbrev pub int_computed : Frame → List ℕ → Option ℕ → LocalRow
int_computed f rest (Some v) = leaving f (v ∷ rest)
int_computed f rest None = fails_by ARITHMETIC_EXCEPTION

abbrev pub long_computed : Frame → List ℕ → Option ℕ → LocalRow
long_computed f rest (Some v) = leaving f (long_words v ++ rest)
long_computed f rest None = fails_by ARITHMETIC_EXCEPTION

abbrev pub int_arithmetic : Frame → Arithmetic → List ℕ → LocalRow
int_arithmetic f op (b ∷ a ∷ rest) = int_computed f rest (result_of w32 op a b)
int_arithmetic f op _ = no_row

abbrev pub long_arithmetic : Frame → Arithmetic → List ℕ → LocalRow
long_arithmetic f op (d ∷ c ∷ b ∷ a ∷ rest) = long_computed f rest (result_of w64 op (long_of a b) (long_of c d))
long_arithmetic f op _ = no_row

abbrev pub int_negate : Frame → List ℕ → LocalRow
int_negate f (a ∷ rest) = leaving f (negative_of w32 a ∷ rest)
int_negate f _ = no_row

abbrev pub long_negate : Frame → List ℕ → LocalRow
long_negate f (b ∷ a ∷ rest) = leaving f (long_words (negative_of w64 (long_of a b)) ++ rest)
long_negate f _ = no_row

abbrev pub int_shift : Frame → Shift → List ℕ → LocalRow
int_shift f op (by ∷ a ∷ rest) = leaving f (int_shifted op a by ∷ rest)
int_shift f op _ = no_row

abbrev pub long_shift : Frame → Shift → List ℕ → LocalRow
long_shift f op (by ∷ b ∷ a ∷ rest) = leaving f (long_words (long_shifted op (long_of a b) by) ++ rest)
long_shift f op _ = no_row

abbrev pub converted : Conversion → List ℕ → Option (List ℕ)
converted IntToLong (a ∷ rest) = Some (long_words (widened a) ++ rest)
converted LongToInt (b ∷ a ∷ rest) = Some (a ∷ rest)
converted IntToByte (a ∷ rest) = Some (byte_of a ∷ rest)
converted IntToChar (a ∷ rest) = Some (char_of a ∷ rest)
converted IntToShort (a ∷ rest) = Some (short_of a ∷ rest)
converted _ _ = None

abbrev pub long_compare : Frame → List ℕ → LocalRow
long_compare f (d ∷ c ∷ b ∷ a ∷ rest) = leaving f (compared (long_of a b) (long_of c d) ∷ rest)
long_compare f _ = no_row

abbrev pub plain_row : Frame → Plain → List ℕ → LocalRow
plain_row f plain.Nop stack = leaving f stack
plain_row f plain.Null stack = leaving f (0 ∷ stack)
plain_row f (plain.Stack op) stack = stack_row f (rearranged op stack)
plain_row f (plain.IntArithmetic op) stack = int_arithmetic f op stack
plain_row f (plain.LongArithmetic op) stack = long_arithmetic f op stack
plain_row f plain.IntNegate stack = int_negate f stack
plain_row f plain.LongNegate stack = long_negate f stack
plain_row f (plain.IntShift op) stack = int_shift f op stack
plain_row f (plain.LongShift op) stack = long_shift f op stack
plain_row f (plain.Convert conversion) stack = stack_row f (converted conversion stack)
plain_row f plain.LongCompare stack = long_compare f stack
plain_row f _ stack = no_row

-- ---- local variables (JVMS 2.11.2); a long has its low half in the lower one

abbrev pub loaded : Frame → List ℕ → Option ℕ → LocalRow
loaded f stack (Some v) = leaving f (v ∷ stack)
loaded f stack None = no_row

abbrev pub long_loaded : Frame → List ℕ → Option ℕ → Option ℕ → LocalRow
long_loaded f stack (Some low) (Some high) = leaving f (high ∷ low ∷ stack)
long_loaded f stack _ _ = no_row

-- the frame with another word in a local
abbrev pub with_local : Frame → ℕ → ℕ → Frame
with_local f n v = record f { locals = slice_set f.locals n v }

abbrev pub stored : Frame → ℕ → List ℕ → LocalRow
stored f n (v ∷ rest) = if nat_lt n (length f.locals) then leaving (with_local f n v) rest else no_row
stored f n _ = no_row

abbrev pub long_stored : Frame → ℕ → List ℕ → LocalRow
long_stored f n (high ∷ low ∷ rest) =
    if nat_lt (suc n) (length f.locals) then leaving (with_local (with_local f n low) (suc n) high) rest else no_row
long_stored f n _ = no_row

abbrev pub local_access : Frame → LocalAccess → ℕ → List ℕ → LocalRow
local_access f (Load kinds.Long) n stack = long_loaded f stack (slice_get f.locals n) (slice_get f.locals (suc n))
local_access f (Load _) n stack = loaded f stack (slice_get f.locals n)
local_access f (Store kinds.Long) n stack = long_stored f n stack
local_access f (Store _) n stack = stored f n stack

abbrev pub incremented : Frame → ℕ → ℤ → List ℕ → Option ℕ → LocalRow
incremented f n by stack (Some v) =
    leaving (with_local f n (cast_unsigned w32 (int_wrapping_add w32 (cast_signed w32 v) by))) stack
incremented f n by stack None = no_row

-- ---- branches (JVMS 2.11.7)

abbrev pub jumps : Frame → Target → List ℕ → LocalRow
jumps f target stack = moves (record f { step = target.step; task = at_step; stack = stack })

abbrev pub jumps_if : Frame → Target → List ℕ → Bool → LocalRow
jumps_if f target stack taken = if taken then jumps f target stack else moves (after_step f stack)

abbrev pub branch_row : Frame → Test → Target → List ℕ → LocalRow
branch_row f (tests.Zero condition) target (a ∷ rest) = jumps_if f target rest (holds condition a 0)
branch_row f (tests.Ints condition) target (b ∷ a ∷ rest) = jumps_if f target rest (holds condition a b)
branch_row f tests.Same target (b ∷ a ∷ rest) = jumps_if f target rest (a == b)
branch_row f tests.Different target (b ∷ a ∷ rest) = jumps_if f target rest (not (a == b))
branch_row f tests.Null target (a ∷ rest) = jumps_if f target rest (a == 0)
branch_row f tests.NonNull target (a ∷ rest) = jumps_if f target rest (not (a == 0))
branch_row f tests.Always target stack = jumps f target stack
branch_row f _ target _ = no_row

abbrev pub table_row : Frame → Target → ℤ → List Target → List ℕ → LocalRow
table_row f default low targets (a ∷ rest) = jumps f (table_target default low targets (cast_signed w32 a)) rest
table_row f default low targets _ = no_row

abbrev pub lookup_row : Frame → Target → List (Case Target) → List ℕ → LocalRow
lookup_row f default cases (a ∷ rest) = jumps f (case_target default cases a) rest
lookup_row f default cases _ = no_row

-- ---- one row an instruction

abbrev pub local_row : List ClassUnit → Frame → What Target → List ℕ → LocalRow
local_row us f (whats.Plain op) stack = plain_row f op stack
local_row us f (whats.Int n) stack = leaving f (cast_unsigned w32 n ∷ stack)
local_row us f (whats.Long n) stack = leaving f (long_words (cast_unsigned w64 n) ++ stack)
local_row us f (whats.Constant index) stack = pushed f stack (constant_at us f.method.class index)
local_row us f (whats.LongConstant index) stack = pushed f stack (constant_at us f.method.class index)
local_row us f (whats.Local access n) stack = local_access f access n stack
local_row us f (whats.Increment n by) stack = incremented f n by stack (slice_get f.locals n)
local_row us f (whats.Branch test target) stack = branch_row f test target stack
local_row us f (whats.TableSwitch default low targets) stack = table_row f default low targets stack
local_row us f (whats.LookupSwitch default cases) stack = lookup_row f default cases stack
local_row us f _ stack = no_row
