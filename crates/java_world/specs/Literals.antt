-- The units of the string literals of a program, by their numbers.
use Rattle.std.specs.Prelude.{◌≡◌, ℕ, List, [], map, length, slice_get}
use Rattle.std.specs.List.{range_with_len}
use Rattle.std.specs.Option.{option_map_or}
use Rattle.code_decode.specs.declared.code.ClassUnit.{ClassUnit}
use Rattle.link_rules.specs.Strings.{string_texts}
use Rattle.java_rows.specs.Units.{literal_units}

abbrev pub literals_of : List ClassUnit → List (List ℕ)
literals_of us = map (literal_units us) (range_with_len 0 (length (string_texts us)))

-- those of one literal
abbrev pub literal_in : List (List ℕ) → ℕ → List ℕ
literal_in literals n = option_map_or (λ (units : List ℕ). units) (slice_get literals n) []

pub record AreLiteralsOf (us : List ClassUnit) (literals : List (List ℕ)) : Type 0 where
  pub are : literals ≡ literals_of us
