-- Arrays by dimensions and the places of their bases, in order.
use Rattle.std.specs.Prelude.{ℕ, zero, suc, ◌==◌, ◌&&◌, Bool, nat_le, Option, List, [], ◌∷◌, ◌++◌, if◌then◌else◌}
use Rattle.std.specs.List.{position_from}
use Rattle.array_table.specs.declared.place.ArrayPlace.{ArrayPlace}

abbrev pub place_of : ℕ → ℕ → ArrayPlace
place_of d base = record { dimensions = d; base = base }

-- the arrays with d dimensions, one for each base, from a place on, whose most dimensions are at least d
abbrev pub places_of_dimensions : ℕ → List ℕ → ℕ → List ArrayPlace
places_of_dimensions base [] d = []
places_of_dimensions base (m ∷ most) d =
    if nat_le d m then place_of d base ∷ places_of_dimensions (suc base) most d else places_of_dimensions (suc base) most d

unfoldable pub places_from : List ℕ → ℕ → ℕ → List ArrayPlace
places_from most zero d = []
places_from most (suc n) d = places_of_dimensions 0 most d ++ places_from most n (suc d)

-- the arrays of bases, from 1 dimension up to the most of each base: fewer dimensions first
unfoldable pub places_in_order : List ℕ → List ArrayPlace
places_in_order most = places_from most 255 1

abbrev pub is_place : ℕ → ℕ → ArrayPlace → Bool
is_place d base p = p.dimensions == d && p.base == base

-- the number of an array, from 0
abbrev pub number_in : List ArrayPlace → ℕ → ℕ → Option ℕ
number_in places d base = position_from (is_place d base) 0 places
