-- The numbers of the arrays with a given number of dimensions, by their bases.
use Rattle.std.specs.Prelude.{◌≡◌, ℕ, ◌+◌, Option, List, length, slice_get, option_map}
use Rattle.std.specs.Option.{option_flatten}
use Rattle.array_table.specs.Places.{places_of_dimensions, number_in}

abbrev pub kept_in_row : List (Option ℕ) → ℕ → Option ℕ
kept_in_row row base = option_flatten (slice_get row base)

-- numbers from a number on
pub record IsRowOf (start d : ℕ) (most : List ℕ) (row : List (Option ℕ)) : Type 0 where
  pub count : length row ≡ length most
  pub each : (base : ℕ) → kept_in_row row base ≡ option_map (λ i. start + i) (number_in (places_of_dimensions 0 most d) d base)
