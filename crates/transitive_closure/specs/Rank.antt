-- Numbers with the count of those that they are related to.
use Rattle.std.specs.Prelude.{ℕ, ◌-◌, Bool, List, length, map, count_by}
use Rattle.std.specs.List.{range_with_len}
use Rattle.transitive_closure.specs.Relation.{row_of}
use Rattle.transitive_closure.specs.declared.ordering.Rank.{Rank}

abbrev pub rank_of : List (List Bool) → ℕ → Rank
rank_of rows a = record { count = count_by (λ mark. mark) (row_of rows a); number = a }

abbrev pub ranks_of : List (List Bool) → ℕ → List Rank
ranks_of rows first = map (rank_of rows) (range_with_len first (length rows - first))
