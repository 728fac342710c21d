-- Texts in modified UTF-8 (JVMS SE 8, 4.4.7).
use Rattle.std.specs.Prelude.{ℕ, List}
use Rattle.class_names.specs.ShortestForms.{encoded}
use Rattle.text_units.specs.Units.{units_of_text}

-- A text that is given in UTF-8, in modified UTF-8: its UTF-16 code units, each in its shortest form.
abbrev pub encoded_text : List ℕ → List ℕ
encoded_text text = encoded (units_of_text text)
