-- The lines of the threads that died.
use Rattle.std.proofs.Common.{◌≡◌, ◌+◌, ◌++◌, ℕ, zero, suc, Option, Some, List, [], ◌∷◌, take, filter_map, ap, ◌∙◌, slice_get, arith}
use Rattle.std.proofs.lemmas.List.Elements.{filter_map-append}

take_one_more : {X : Type 0} (s : List X) (n : ℕ) (w : X) → slice_get s n ≡ Some w → take (suc n) s ≡ take n s ++ w ∷ []
take_one_more [] n w is = search
take_one_more (x ∷ s) zero w is = search
take_one_more (x ∷ s) (suc n) w is = ap (λ xs. x ∷ xs) (take_one_more s n w is)

-- one item more
pub item_more : {X Y : Type 0} (h : X → Option Y) (xs : List X) (i : ℕ) (x : X) → slice_get xs i ≡ Some x
    → filter_map h (take (i + 1) xs) ≡ filter_map h (take i xs) ++ filter_map h (x ∷ [])
item_more h xs i x is =
    let next : i + 1 ≡ suc i = omega arith in
    ap (λ n. filter_map h (take n xs)) next ∙ ap (filter_map h) (take_one_more xs i x is) ∙ filter_map-append h (take i xs) (x ∷ [])
