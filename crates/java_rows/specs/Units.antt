-- The units of literals and of what is appended (JVMS 4.4.7, java.lang.String).
use Rattle.std.specs.Prelude.{ℕ, ◌==◌, ◌%◌, List, [], ◌∷◌, codes, slice_get, unwrap_or, if◌then◌else◌}
use Rattle.std.specs.Int.{w32, w64, cast_signed}
use Rattle.std.specs.Fmt.{signed_decimal}
use Rattle.code_decode.specs.declared.code.ClassUnit.{ClassUnit}
use Rattle.link_rules.specs.Strings.{string_texts}
use Rattle.text_units.specs.Units.{units_of_text}
use Rattle.java_rows.specs.Numbers.{long_of, char_of}

-- the units of the string literal of a number, none where the program has none
abbrev pub literal_units : List ClassUnit → ℕ → List ℕ
literal_units us n = units_of_text (unwrap_or (slice_get (string_texts us) n) [])

-- ---- what is appended in place of a value: the texts that println prints of them

pub data Appended : Type 0 where
  an_int : ℕ → Appended
  a_long : ℕ → ℕ → Appended
  a_char : ℕ → Appended
  a_boolean : ℕ → Appended
  -- a String, or null
  a_string : ℕ → Appended

abbrev pub units_of_int : ℕ → List ℕ
units_of_int word = signed_decimal (cast_signed w32 word)

abbrev pub units_of_long : ℕ → ℕ → List ℕ
units_of_long low high = signed_decimal (cast_signed w64 (long_of low high))

abbrev pub units_of_boolean : ℕ → List ℕ
units_of_boolean b = if b % 2 == 1 then codes "true" else codes "false"

-- of anything but a String that isn't null, whose text is read
abbrev pub units_without_reading : Appended → List ℕ
units_without_reading (an_int n) = units_of_int n
units_without_reading (a_long low high) = units_of_long low high
units_without_reading (a_char c) = char_of c ∷ []
units_without_reading (a_boolean b) = units_of_boolean b
units_without_reading (a_string s) = codes "null"
