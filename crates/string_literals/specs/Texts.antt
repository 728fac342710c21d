-- Texts with numbers, and the numbers of the literals of a file.
use Rattle.std.specs.Prelude.{◌≡◌, ℕ, ◌++◌, ◌∷◌, [], Option, None, Some, List, length, slice_get, bytes_eq, if◌then◌else◌}
use Rattle.std.specs.List.{position_from, list_any}
use Rattle.class_names.specs.ModifiedUtf8.{IsModifiedUtf8}
use Rattle.class_walk.specs.declared.class.Constant.{Constant}
use Rattle.class_walk.specs.declared.class.Constant.TheVariants.{Str}
use Rattle.link_rules.specs.Classes.{utf8_at}
use Rattle.link_rules.specs.Strings.{literal_text, literal_in}

-- texts in order, and one more unless it is there
abbrev pub with_text : List (List ℕ) → List ℕ → List (List ℕ)
with_text known text = if list_any (bytes_eq text) known then known else known ++ text ∷ []

abbrev pub with_literal : List (List ℕ) → Option (List ℕ) → List (List ℕ)
with_literal known None = known
with_literal known (Some text) = with_text known text

-- Str entries name modified UTF-8
abbrev pub HasTexts : List Constant → Type 0
HasTexts pool = (i text : ℕ) → slice_get pool i ≡ Some (Str text) → IsModifiedUtf8 (utf8_at pool text)

-- the number of a text
abbrev pub HasNumber : List (List ℕ) → List ℕ → ℕ → Type 0
HasNumber known text n = position_from (bytes_eq text) 0 known ≡ Some n

abbrev pub IsLiteralNumber : List (List ℕ) → Option (List ℕ) → Option ℕ → Type 0
IsLiteralNumber known None o = o ≡ None
IsLiteralNumber known (Some text) o = (n : ℕ) × (o ≡ Some n) × HasNumber known text n

-- the numbers of the literals among the first entries of a pool, by their indices
pub record NumberLiterals (known : List (List ℕ)) (pool : List Constant) (n : ℕ) (numbers : List (Option ℕ)) : Type 0 where
  pub count : length numbers ≡ n
  pub each : (i : ℕ) (c : Constant) (o : Option ℕ) → slice_get pool i ≡ Some c → slice_get numbers i ≡ Some o → IsLiteralNumber known (literal_in pool c) o

-- the numbers of the texts of Utf8 entries that were looked at
pub record AreKept (known : List (List ℕ)) (pool : List Constant) (by_text : List (Option ℕ)) : Type 0 where
  pub count : length by_text ≡ length pool
  pub each : (i n : ℕ) → slice_get by_text i ≡ Some (Some n) → HasNumber known (literal_text (utf8_at pool i)) n
