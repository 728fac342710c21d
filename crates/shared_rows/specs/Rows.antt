-- What a row means.
use Rattle.std.specs.Prelude.{ℕ, ◌/◌, ◌%◌, List, [], map, slice_index, slice_index_or, nat_eq, if◌then◌else◌}
use Rattle.std.specs.Arc.{arc_value}
use Rattle.shared_rows.specs.declared.SharedRow.{SharedRow}

-- the number at a place of pages of 64, 0 past their end
abbrev pub number_in : List (List ℕ) → ℕ → ℕ
number_in pages place = slice_index (slice_index_or pages (place / 64) []) (place % 64)

abbrev pub number_at : SharedRow → ℕ → ℕ
number_at row place = number_in (map arc_value row.pages.items) place

-- f with the value v at k
abbrev pub set_at : (ℕ → ℕ) → ℕ → ℕ → ℕ → ℕ
set_at f k v j = if nat_eq j k then v else f j
