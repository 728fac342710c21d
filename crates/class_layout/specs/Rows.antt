-- The rows of the classes of a program by their numbers.
use Rattle.std.specs.Prelude.{◌≡◌, ℕ, zero, suc, Option, None, Some, List, [], length, slice_get}
use Rattle.std.specs.Option.{option_map_or}
use Rattle.link_rules.specs.Classes.{NamedClass, fields_of}
use Rattle.link_rules.specs.Layout.{instance_words, static_words, field_place}
use Rattle.class_layout.specs.declared.row.ClassRow.{ClassRow}

-- a class without fields and words
abbrev pub empty_row : ClassRow
empty_row = record { places = []; static_words = 0; instance_words = 0 }

abbrev pub row_numbered : List ClassRow → ℕ → Option ClassRow
row_numbered rows zero = None
row_numbered rows (suc i) = slice_get rows i

-- the words of an object of a class by its row, 0 where there is none
abbrev pub instance_in : List ClassRow → ℕ → ℕ
instance_in rows c = option_map_or (λ r. r.instance_words) (row_numbered rows c) 0

abbrev pub statics_in : List ClassRow → ℕ → ℕ
statics_in rows c = option_map_or (λ r. r.static_words) (row_numbered rows c) 0

abbrev pub place_in : ClassRow → ℕ → ℕ
place_in r i = option_map_or (λ n. n) (slice_get r.places i) 0

-- the first word of the field at a place of a class, 0 where there is none
abbrev pub place_numbered : List NamedClass → ℕ → ℕ → ℕ
place_numbered cs c i = option_map_or (field_place cs c i) (slice_get (fields_of cs c) i) 0

pub record IsRowOf (cs : List NamedClass) (c : ℕ) (row : ClassRow) : Type 0 where
  pub instances : row.instance_words ≡ instance_words cs c
  pub statics : row.static_words ≡ static_words cs c
  pub places : (i : ℕ) → place_in row i ≡ place_numbered cs c i

pub record AreRowsOf (cs : List NamedClass) (rows : List ClassRow) : Type 0 where
  pub count : length rows ≡ length cs
  pub each : (c : ℕ) (row : ClassRow) → row_numbered rows c ≡ Some row → IsRowOf cs c row
