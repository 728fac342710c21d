-- Numbers by their keys.
use Rattle.std.specs.Prelude.{◌≡◌, ℕ, ◌==◌, List, Option, slice_get}
use Rattle.std.specs.List.{position_from}
use Rattle.std.specs.Option.{option_flatten}

-- at each key is its number, and there is nothing elsewhere
abbrev pub AreNumbersOf : List ℕ → List (Option ℕ) → Type 0
AreNumbersOf keys numbers =
    (at : ℕ) → option_flatten (slice_get numbers at) ≡ position_from (λ k. k == at) 0 keys

-- at each key both lists have the same number, or none
abbrev pub IsSameAt : List (Option ℕ) → List (Option ℕ) → Type 0
IsSameAt old new = (at : ℕ) → option_flatten (slice_get new at) ≡ option_flatten (slice_get old at)
