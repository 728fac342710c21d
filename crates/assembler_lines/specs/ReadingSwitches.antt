-- Reading the operands of switches word by word.
use Rattle.std.specs.Prelude.{ℕ, ℤ, Bool, List, [], ◌∷◌, length, if◌then◌else◌, Option, Some, None, option_map, int_le, pos, negsuc, ◌&&◌}
use Rattle.assembler_lines.specs.declared.word.Word.{Word}
use Rattle.assembler_lines.specs.declared.word.Word.TheVariants.{Plain, Quoted}
use Rattle.assembler_lines.specs.declared.operation.LabelledCase.{LabelledCase}
use Rattle.assembler_lines.specs.declared.operation.Operands.{Operands}
use Rattle.assembler_lines.specs.declared.operation.Operands.TheVariants.{TableSwitch, LookupSwitch}
use Rattle.decimal_numbers.specs.Numbers.{integer_up_to}
use Rattle.assembler_lines.specs.Switches.{highest_key}
use Rattle.assembler_lines.specs.Front.{◌>>=◌, plain_at, each}

abbrev pub int : List ℕ → Option ℤ
int written = integer_up_to 2147483647 written

abbrev pub plain_name : Word → Option (List ℕ)
plain_name (Plain name) = Some name
plain_name (Quoted units) = None

-- the highest key, where it is an int
abbrev pub is_int : ℤ → Bool
is_int n = int_le (negsuc 2147483647) n && int_le n (pos 2147483647)

unfoldable pub table_switch_at : List Word → Option Operands
table_switch_at words = do
  low_written ← plain_at words
  default ← plain_at low_written.1
  low ← int low_written.0
  labels ← each plain_name default.1
  if is_int (highest_key low (length labels)) then Some (TableSwitch low default.0 labels) else None

-- the key and the label at the front, and the words after them
unfoldable pub case_at : List Word → Option (LabelledCase × List Word)
case_at words = do
  written ← plain_at words
  label ← plain_at written.1
  key ← int written.0
  Some (record { key = key; label = label.0 }, label.1)

abbrev pub case_of : Word → Word → Option LabelledCase
case_of (Plain written) (Plain label) = option_map (λ key. record { key = key; label = label }) (int written)
case_of _ _ = None

abbrev pub cases_at : List Word → Option (List LabelledCase)
cases_at [] = Some []
cases_at (word ∷ []) = None
cases_at (first ∷ second ∷ words) = case_of first second >>= λ case. cases_at words >>= λ cases. Some (case ∷ cases)

unfoldable pub lookup_switch_at : List Word → Option Operands
lookup_switch_at words = do
  default ← plain_at words
  cases ← cases_at default.1
  Some (LookupSwitch default.0 cases)
