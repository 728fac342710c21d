-- The string literals of a program by number, and their numbers by file and pool index.
use Rattle.std.specs.Prelude.{◌≡◌, ℕ, ◌≤◌, ◌^◌, Option, Some, List, length, slice_get, option_map, option_and_then}
use Rattle.std.specs.Option.{option_flatten}
use Rattle.code_decode.specs.declared.code.ClassUnit.{ClassUnit}
use Rattle.link_rules.specs.Strings.{literal_in, string_texts}
use Rattle.link_rules.specs.Names.{program_names, string_number}
use Rattle.string_literals.specs.declared.literals.StringLiterals.{StringLiterals}
use Rattle.string_literals.specs.Texts.{NumberLiterals}

-- the text of the literal at an index of the pool of a file
abbrev pub literal_at : List ClassUnit → ℕ → ℕ → Option (List ℕ)
literal_at us k i =
    option_and_then (λ (u : ClassUnit). option_and_then (literal_in u.file.pool) (slice_get u.file.pool i)) (slice_get us k)

abbrev pub literal_number : List ClassUnit → ℕ → ℕ → Option ℕ
literal_number us k i = option_map (string_number (program_names us)) (literal_at us k i)

-- the number that is kept at a place
abbrev pub kept_number : List (List (Option ℕ)) → ℕ → ℕ → Option ℕ
kept_number files k i = option_and_then (λ (numbers : List (Option ℕ)). option_flatten (slice_get numbers i)) (slice_get files k)

pub record IsLiteralsOf (us : List ClassUnit) (literals : StringLiterals) : Type 0 where
  pub texts : literals.texts.items ≡ string_texts us
  pub count : length literals.numbers.items ≡ length us
  pub numbers : (k : ℕ) (u : ClassUnit) (numbers : List (Option ℕ)) → slice_get us k ≡ Some u → slice_get literals.numbers.items k ≡ Some numbers
      → NumberLiterals (string_texts us) u.file.pool (length u.file.pool) numbers
  pub how_many : literals.count ≡ length (string_texts us)
  pub few : length (string_texts us) ≤ 2 ^ 26
