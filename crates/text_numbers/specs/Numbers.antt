-- Numbers of texts.
use Rattle.std.specs.Prelude.{◌≡◌, ◌==◌, ℕ, zero, suc, List, [], ◌∷◌, ◌++◌, bytes_eq, unwrap_or, if◌then◌else◌}
use Rattle.std.specs.BTreeMap.{BTreeMap, get_by}
use Rattle.std.specs.Borrow.{Bor}
use Rattle.std.specs.Cmp.Lexicographic.{slice_cmp}
use Rattle.std.specs.Ordering.{nat_cmp}

-- a number with one more before it
abbrev pub one_behind : ℕ → ℕ
one_behind zero = zero
one_behind (suc n) = suc (suc n)

-- the place of a text in a list, from 1; 0 where it isn't there
abbrev pub number_of : List (List ℕ) → List ℕ → ℕ
number_of [] text = 0
number_of (t ∷ ts) text = if bytes_eq t text then 1 else one_behind (number_of ts text)

-- a text at the end of a list that hasn't got it
abbrev pub with_text : List (List ℕ) → List ℕ → List (List ℕ)
with_text ts text = if number_of ts text == 0 then ts ++ text ∷ [] else ts

-- the number of a text in a map, 0 where it has none
abbrev pub number_in : BTreeMap (Bor (List ℕ)) ℕ → List ℕ → ℕ
number_in numbers text = unwrap_or (get_by (λ k. slice_cmp nat_cmp text k.now) numbers) 0

-- a map has the numbers of texts
pub record IsNumbering (numbers : BTreeMap (Bor (List ℕ)) ℕ) (ts : List (List ℕ)) : Type 0 where
  pub is : (text : List ℕ) → number_in numbers text ≡ number_of ts text
