-- The numbers of arrays as they are kept: by dimensions, from 1, and then by bases.
use Rattle.std.specs.Prelude.{◌≡◌, ℕ, zero, suc, Option, None, List, slice_get, length}
use Rattle.std.specs.Option.{option_and_then}
use Rattle.array_table.specs.declared.table.ArrayTable.{ArrayTable}
use Rattle.array_table.specs.Places.{places_in_order, number_in}
use Rattle.array_table.specs.Row.{kept_in_row}

abbrev pub kept_number : List (List (Option ℕ)) → ℕ → ℕ → Option ℕ
kept_number rows zero base = None
kept_number rows (suc d) base = option_and_then (λ (row : List (Option ℕ)). kept_in_row row base) (slice_get rows d)

-- the arrays of bases, from 1 dimension up to the most of each base, and their numbers
pub record IsTableOf (most : List ℕ) (table : ArrayTable) : Type 0 where
  pub places : table.places.items ≡ places_in_order most
  pub numbers : (d base : ℕ) → kept_number table.numbers.items d base ≡ number_in (places_in_order most) d base
  pub how_many : table.count ≡ length (places_in_order most)
