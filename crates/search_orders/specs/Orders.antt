-- Lists in which each number occurs once, and the ranks of numbers in a list.
use Rattle.std.specs.Prelude.{◌≡◌, ℕ, zero, suc, ◌==◌, Bool, List, [], ◌∷◌, ◌++◌, fold, slice_index, if◌then◌else◌}
use Rattle.std.specs.List.{list_any}

abbrev pub has_number : List ℕ → ℕ → Bool
has_number xs x = list_any (λ y. y == x) xs

-- a number at the end of a list that hasn't got it
abbrev pub put : List ℕ → ℕ → List ℕ
put xs x = if has_number xs x then xs else xs ++ x ∷ []

-- numbers at the end of a list, one after the other
abbrev pub put_all : List ℕ → List ℕ → List ℕ
put_all xs ys = fold put xs ys

-- the numbers of a list, each where it occurs first
abbrev pub without_repeats : List ℕ → List ℕ
without_repeats xs = put_all [] xs

-- a rank with one more before it
abbrev pub one_behind : ℕ → ℕ
one_behind zero = zero
one_behind (suc n) = suc (suc n)

-- the place of a number in a list, from 1; 0 where it isn't there
abbrev pub rank : List ℕ → ℕ → ℕ
rank [] x = 0
rank (y ∷ ys) x = if y == x then 1 else one_behind (rank ys x)

-- the ranks of all numbers in a list; a number past their end has none
abbrev pub HasRanks : List ℕ → List ℕ → Type 0
HasRanks xs ranks = (n : ℕ) → slice_index ranks n ≡ rank xs n
