-- The first member in an order of classes.
use Rattle.std.specs.Prelude.{ℕ, ◌==◌, ◌&&◌, ◌||◌, nat_lt, not, Bool, Option, None, Some, List, [], ◌∷◌}
use Rattle.std.specs.List.{find}
use Rattle.member_table.specs.declared.table.MemberRow.{MemberRow}

abbrev pub or_first : {X : Type 0} → Option X → Option X → Option X
or_first None other = other
or_first (Some x) other = Some x

-- the first of some classes that has something
abbrev pub first_found : {X : Type 0} → (ℕ → Option X) → List ℕ → Option X
first_found f [] = None
first_found f (c ∷ cs) = or_first (f c) (first_found f cs)

-- the first of some members that a class declares
abbrev pub of_class : List MemberRow → ℕ → Option MemberRow
of_class ms c = find (λ m. m.class == c) ms

-- a rank is there and comes before another one, if that is there
abbrev pub comes_before : ℕ → ℕ → Bool
comes_before rank other = not (rank == 0) && (other == 0 || nat_lt rank other)
