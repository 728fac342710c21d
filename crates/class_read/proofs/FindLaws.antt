-- The first item of a list that passes a test, one item after the other.
use Rattle.std.proofs.Common.{◌≡◌, ℕ, zero, suc, ◌+◌, Bool, true, false, List, [], ◌∷◌, ◌++◌, take, slice_get, Option, None, Some, refl, sym, ap, add-one, find, is_some, cond}
use Rattle.std.proofs.lemmas.Option.{same_Some}

pub take_next : {X : Type 0} (xs : List X) (i : ℕ) (x : X) → slice_get xs i ≡ Some x → take (i + 1) xs ≡ take i xs ++ x ∷ []
take_next [] i x e = absurd cc
take_next {X} (y ∷ ys) zero x e = let same : y ≡ x = same_Some y x e in ap (λ (z : X). z ∷ []) same
take_next (y ∷ ys) (suc i) x e = rw add-one (ap (λ zs. y ∷ zs) (rw add-one at (take_next ys i x e)))

pub find_behind : {X : Type 0} (test : X → Bool) (xs : List X) (x : X) → find test xs ≡ None → find test (xs ++ x ∷ []) ≡ find test (x ∷ [])
find_behind test [] x none = refl
find_behind test (y ∷ ys) x none = elim (test y) as (λ b. cond b (Some y) (find test ys) ≡ None → cond b (Some y) (find test (ys ++ x ∷ [])) ≡ find test (x ∷ [])) [ true ↦ λ e. absurd cc | false ↦ λ e. find_behind test ys x e ] none

pub find_before : {X : Type 0} (test : X → Bool) (xs ys : List X) (y : X) → find test xs ≡ Some y → find test (xs ++ ys) ≡ Some y
find_before test [] ys y e = absurd cc
find_before test (x ∷ xs) ys y some = elim (test x) as (λ b. cond b (Some x) (find test xs) ≡ Some y → cond b (Some x) (find test (xs ++ ys)) ≡ Some y) [ true ↦ λ e. e | false ↦ λ e. find_before test xs ys y e ] some

-- an item that doesn't pass changes nothing
pub find_passed : {X : Type 0} (test : X → Bool) (xs : List X) (i : ℕ) (x : X) (found : Option X) → slice_get xs i ≡ Some x → test x ≡ false → found ≡ find test (take i xs) → found ≡ find test (take (i + 1) xs)
find_passed test xs i x None at other e =
    let behind = find_behind test (take i xs) x (sym e) in
    rw (take_next xs i x at, behind, other) refl
find_passed test xs i x (Some y) at other e = rw (take_next xs i x at, find_before test (take i xs) (x ∷ []) y (sym e)) refl

-- the first one that passes is found
pub find_here : {X : Type 0} (test : X → Bool) (xs : List X) (i : ℕ) (x : X) → slice_get xs i ≡ Some x → test x ≡ true → is_some (find test (take i xs)) ≡ false → Some x ≡ find test (take (i + 1) xs)
find_here test xs i x at passes none =
    let nothing : find test (take i xs) ≡ None = none_of (find test (take i xs)) none in
    rw (take_next xs i x at, find_behind test (take i xs) x nothing, passes) refl
  where
    none_of : {X : Type 0} (o : Option X) → is_some o ≡ false → o ≡ None
    none_of None e = refl
    none_of (Some y) e = absurd cc
