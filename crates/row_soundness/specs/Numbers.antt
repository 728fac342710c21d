-- What operations on numbers give.
use Rattle.std.specs.Prelude.{◌≡◌, ◌<◌, ◌^◌, ℕ, ℤ, Some}
use Rattle.std.specs.Int.{w32, w64, cast_signed, cast_unsigned, int_wrapping_add}
use Rattle.instructions.specs.declared.operation.Arithmetic.{Arithmetic}
use Rattle.link_types.specs.declared.types.ValueType.{ValueType}
use Rattle.java_rows.specs.Numbers.{result_of, kept, byte_of, short_of, negative_of, int_shifted, long_shifted, widened}
use Rattle.instructions.specs.declared.operation.Shift.{Shift}
use Rattle.java_rows.specs.Units.{units_of_int, units_of_long}
use Rattle.row_soundness.specs.Texts.{AreWords}

-- results of operations on words are words
pub record NumbersFit : Type 0 where
  pub ints : (op : Arithmetic) (a b v : ℕ) → a < 2 ^ 32 → b < 2 ^ 32 → result_of w32 op a b ≡ Some v → v < 2 ^ 32
  pub longs : (op : Arithmetic) (a b v : ℕ) → a < 2 ^ 64 → b < 2 ^ 64 → result_of w64 op a b ≡ Some v → v < 2 ^ 64
  pub kept : (t : ValueType) (v : ℕ) → v < 2 ^ 32 → kept t v < 2 ^ 32
  pub negatives : (a : ℕ) → a < 2 ^ 32 → negative_of w32 a < 2 ^ 32
  pub long_negatives : (a : ℕ) → a < 2 ^ 64 → negative_of w64 a < 2 ^ 64
  pub int_shifts : (op : Shift) (a by : ℕ) → a < 2 ^ 32 → int_shifted op a by < 2 ^ 32
  pub long_shifts : (op : Shift) (a by : ℕ) → a < 2 ^ 64 → long_shifted op a by < 2 ^ 64
  pub wide : (a : ℕ) → a < 2 ^ 32 → widened a < 2 ^ 64
  pub increments : (a : ℕ) (by : ℤ) → a < 2 ^ 32 → cast_unsigned w32 (int_wrapping_add w32 (cast_signed w32 a) by) < 2 ^ 32
  pub bytes : (v : ℕ) → byte_of v < 2 ^ 32
  pub shorts : (v : ℕ) → short_of v < 2 ^ 32
  -- the units of an int or a long are words
  pub int_units : (v : ℕ) → AreWords (units_of_int v)
  pub long_units : (low high : ℕ) → AreWords (units_of_long low high)
