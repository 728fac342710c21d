-- Reading modified UTF-8 form by form.
use Rattle.std.specs.Prelude.{ℕ, List, [], ◌∷◌, ◌&&◌, if◌then◌else◌, Option, Some, None, option_map}
use Rattle.class_names.specs.ModifiedUtf8.{is_single, is_double, is_triple, is_continuation, unit_of, is_high, is_low, pair_of, alone}

abbrev pub third_at : ℕ → ℕ → List ℕ → Option (ℕ × List ℕ)
third_at a b [] = None
third_at a b (c ∷ bs) = if is_triple a && is_continuation c then Some (unit_of (a ∷ b ∷ c ∷ []), bs) else None

abbrev pub second_at : ℕ → List ℕ → Option (ℕ × List ℕ)
second_at a [] = None
second_at a (b ∷ bs) = if is_continuation b then if is_double a then Some (unit_of (a ∷ b ∷ []), bs) else third_at a b bs else None

-- the code unit of the form at the front, and what comes after it
abbrev pub unit_at : List ℕ → Option (ℕ × List ℕ)
unit_at [] = None
unit_at (a ∷ bs) = if is_single a then Some (unit_of (a ∷ []), bs) else second_at a bs

-- the character of a unit, where the next unit is read after it
abbrev pub character_with : ℕ × List ℕ → Option (ℕ × List ℕ) → ℕ × List ℕ
character_with first None = (alone first.0, first.1)
character_with first (Some second) = if is_high first.0 && is_low second.0 then (pair_of first.0 second.0, second.1) else (alone first.0, first.1)

-- the character at the front, and what comes after it
unfoldable pub character_at : List ℕ → Option (ℕ × List ℕ)
character_at bytes = option_map (λ first. character_with first (unit_at first.1)) (unit_at bytes)
