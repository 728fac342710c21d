-- Texts as UTF-16 code units (JVMS 4.4.7, java.lang.String).
use Rattle.std.specs.Prelude.{ℕ, List, flat_map, encode_utf8_all}
use Rattle.std.specs.Str.{chars}
use Rattle.std.specs.Char.Escape.{encode_utf16}
use Rattle.class_names.specs.ModifiedUtf8.{characters}

-- the units of a text that is given in UTF-8
abbrev pub units_of_text : List ℕ → List ℕ
units_of_text text = flat_map encode_utf16 (chars text)

-- the text of units, in UTF-8: a pair of surrogates is one character, a surrogate in no pair is `?`
abbrev pub text_of_units : List ℕ → List ℕ
text_of_units units = encode_utf8_all (characters units)
