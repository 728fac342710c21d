-- The text of modified UTF-8, as a function of the bytes (JVMS SE 8, 4.4.7).
use Rattle.std.specs.Prelude.{ℕ, zero, suc, List, [], ◌∷◌, length, Option, Some, None, option_map, option_and_then, encode_utf8_all}
use Rattle.class_names.specs.ModifiedUtf8.{characters}
use Rattle.class_names.specs.ReadingText.{unit_at}

-- the code units of the forms that the bytes consist of, at most n of them
unfoldable pub units_within : ℕ → List ℕ → Option (List ℕ)
units_within n [] = Some []
units_within zero (b ∷ bytes) = None
units_within (suc n) (b ∷ bytes) = option_and_then (λ x. option_map (λ units. x.0 ∷ units) (units_within n x.1)) (unit_at (b ∷ bytes))

-- the UTF-16 code units that the bytes stand for
abbrev pub units_of : List ℕ → Option (List ℕ)
units_of bytes = units_within (length bytes) bytes

-- the text that the bytes stand for, in UTF-8
abbrev pub text_of : List ℕ → Option (List ℕ)
text_of bytes = option_map (λ units. encode_utf8_all (characters units)) (units_of bytes)
