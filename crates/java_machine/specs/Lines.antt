-- The lines that println prints (java.io.PrintStream, String.valueOf).
use Rattle.std.specs.Prelude.{ℕ, List, [], ◌∷◌, ◌++◌, codes, encode_utf8_all, slice_get, unwrap_or, if◌then◌else◌}
use Rattle.std.specs.Fmt.{signed_decimal}
use Rattle.class_names.specs.ModifiedUtf8.{alone}
use Rattle.code_decode.specs.declared.code.ClassUnit.{ClassUnit}
use Rattle.link_rules.specs.Strings.{string_texts}
use Rattle.op_core.specs.declared.Line.{Line}
use Rattle.op_core.specs.declared.Line.TheVariants as lines
use Rattle.op_core.specs.declared.MadeText.{MadeText}
use Rattle.text_units.specs.Units.{text_of_units}
use Rattle.java_machine.specs.Made.{units_in}

-- a text and the end of its line
abbrev pub line_of : List ℕ → List ℕ
line_of text = text ++ 10 ∷ []

-- Numbers are decimal, a char and a text are UTF-8; a surrogate that is in no pair is `?`. A text that the program made is
-- one of these.
abbrev pub line_text : List ClassUnit → List MadeText → Line → List ℕ
line_text us made lines.Empty = []
line_text us made (lines.Int n) = signed_decimal n
line_text us made (lines.Long n) = signed_decimal n
line_text us made (lines.Char unit) = encode_utf8_all (alone unit ∷ [])
line_text us made (lines.Bool b) = if b then codes "true" else codes "false"
line_text us made (lines.Text n) = unwrap_or (slice_get (string_texts us) n) []
line_text us made (lines.Made at) = text_of_units (units_in made at)
line_text us made lines.Null = codes "null"

abbrev pub line_bytes : List ClassUnit → List MadeText → Line → List ℕ
line_bytes us made line = line_of (line_text us made line)
