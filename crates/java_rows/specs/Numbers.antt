-- Numbers in words of 32 bits (JVMS 2.3.1, 2.11.3, 2.11.4). An int is the signed reading of its word, a long that of
-- its two words.
use Rattle.std.specs.Prelude.{ℕ, ◌+◌, ◌-◌, ◌*◌, ◌/◌, ◌%◌, ◌^◌, ◌==◌, ◌&&◌, Bool, not, ℤ, pos, ◌-ℤ◌, Option, None, Some, List, [], ◌∷◌, nat_lt, slice_get, find, unwrap_or, option_map, bit_and, bit_or, bit_xor, int_lt, int_rem, if◌then◌else◌}
use Rattle.std.specs.Int.{Width, w8, w16, w32, w64, cast_signed, cast_unsigned, int_wrapping_add, int_wrapping_sub, int_wrapping_mul, int_wrapping_div, int_wrapping_neg, int_shl, int_shr}
use Rattle.instructions.specs.declared.operation.Arithmetic.{Arithmetic}
use Rattle.instructions.specs.declared.operation.Arithmetic.TheVariants.{Add, Subtract, Multiply, Divide, Remainder, And, Or, Xor}
use Rattle.instructions.specs.declared.operation.Condition.{Condition}
use Rattle.instructions.specs.declared.operation.Condition.TheVariants.{Equal, NotEqual, Less, GreaterOrEqual, Greater, LessOrEqual}
use Rattle.instructions.specs.declared.operation.Shift.{Shift}
use Rattle.instructions.specs.declared.operation.Shift.TheVariants.{Left, Right, UnsignedRight}
use Rattle.instructions.specs.declared.what.Case.{Case}
use Rattle.link_types.specs.declared.types.ValueType.{ValueType}
use Rattle.link_types.specs.declared.types.ValueType.TheVariants as values

-- a long by its two halves, and its words on an operand stack: the high half lies above the low one
abbrev pub long_of : ℕ → ℕ → ℕ
long_of low high = low + high * 2 ^ 32

abbrev pub long_words : ℕ → List ℕ
long_words n = n / 2 ^ 32 ∷ n % 2 ^ 32 ∷ []

-- what an operation makes of two numbers of a width; nothing of a zero divisor (JVMS 6.5 idiv, irem)
abbrev pub result_of : Width → Arithmetic → ℕ → ℕ → Option ℕ
result_of w Add a b = Some (cast_unsigned w (int_wrapping_add w (cast_signed w a) (cast_signed w b)))
result_of w Subtract a b = Some (cast_unsigned w (int_wrapping_sub w (cast_signed w a) (cast_signed w b)))
result_of w Multiply a b = Some (cast_unsigned w (int_wrapping_mul w (cast_signed w a) (cast_signed w b)))
result_of w Divide a b =
    if b == 0 then None else Some (cast_unsigned w (int_wrapping_div w (cast_signed w a) (cast_signed w b)))
result_of w Remainder a b =
    if b == 0 then None else Some (cast_unsigned w (int_rem (cast_signed w a) (cast_signed w b)))
result_of w And a b = Some (bit_and a b)
result_of w Or a b = Some (bit_or a b)
result_of w Xor a b = Some (bit_xor a b)

abbrev pub negative_of : Width → ℕ → ℕ
negative_of w a = cast_unsigned w (int_wrapping_neg w (cast_signed w a))

-- a number of a width shifted by a distance
abbrev pub shifted_by : Width → Shift → ℕ → ℕ → ℕ
shifted_by w Left a distance = cast_unsigned w (int_shl w (cast_signed w a) distance)
shifted_by w Right a distance = cast_unsigned w (int_shr (cast_signed w a) distance)
shifted_by w UnsignedRight a distance = a / 2 ^ distance

-- the low 5 or 6 bits of an int are the distance (JVMS 6.5 ishl, lshl)
abbrev pub int_shifted : Shift → ℕ → ℕ → ℕ
int_shifted op a by = shifted_by w32 op a (by % 32)

abbrev pub long_shifted : Shift → ℕ → ℕ → ℕ
long_shifted op a by = shifted_by w64 op a (by % 64)

-- how two ints compare
abbrev pub is_less : ℕ → ℕ → Bool
is_less a b = int_lt (cast_signed w32 a) (cast_signed w32 b)

abbrev pub holds : Condition → ℕ → ℕ → Bool
holds Equal a b = a == b
holds NotEqual a b = not (a == b)
holds Less a b = is_less a b
holds GreaterOrEqual a b = not (is_less a b)
holds Greater a b = is_less b a
holds LessOrEqual a b = not (is_less b a)

-- 1, 0 or -1 as the first of two longs is greater, the same or less (JVMS 6.5 lcmp)
abbrev pub compared : ℕ → ℕ → ℕ
compared a b =
    if a == b then 0
    else if int_lt (cast_signed w64 a) (cast_signed w64 b) then 2 ^ 32 - 1
    else 1

-- an int cut to a byte, a char or a short, and widened again (JVMS 6.5 i2b, i2c, i2s)
abbrev pub byte_of : ℕ → ℕ
byte_of a = cast_unsigned w32 (cast_signed w8 (a % 2 ^ 8))

abbrev pub char_of : ℕ → ℕ
char_of a = a % 2 ^ 16

abbrev pub short_of : ℕ → ℕ
short_of a = cast_unsigned w32 (cast_signed w16 (a % 2 ^ 16))

-- the long of an int (JVMS 6.5 i2l)
abbrev pub widened : ℕ → ℕ
widened a = cast_unsigned w64 (cast_signed w32 a)

-- the word that a field of a type keeps of an int
abbrev pub kept : ValueType → ℕ → ℕ
kept values.Boolean a = a % 2
kept values.Byte a = byte_of a
kept values.Char a = char_of a
kept values.Short a = short_of a
kept _ a = a

-- a word is an int of 0 or more that is less than a length (JVMS 6.5 iaload)
abbrev pub is_index : ℕ → ℕ → Bool
is_index a n = nat_lt a (2 ^ 31) && nat_lt a n

-- where a tableswitch leads whose key is so much above the lowest one, and a lookupswitch (JVMS 6.5)
abbrev pub target_above : {T : Type 0} → T → List T → ℤ → T
target_above default targets (pos i) = unwrap_or (slice_get targets i) default
target_above default targets _ = default

abbrev pub table_target : {T : Type 0} → T → ℤ → List T → ℤ → T
table_target default low targets key = target_above default targets (key -ℤ low)

abbrev pub is_case : {T : Type 0} → ℕ → Case T → Bool
is_case a c = cast_unsigned w32 c.key == a

abbrev pub case_target : {T : Type 0} → T → List (Case T) → ℕ → T
case_target default cases a = unwrap_or (option_map (λ c. c.target) (find (is_case a) cases)) default
