-- Numbers by key: more room, and one number more.
use Rattle.std.proofs.Common.{◌≡◌, ◌≢◌, ◌+◌, ◌<◌, ℕ, zero, suc, Bool, true, false, cond, nat_eq, List, [], ◌∷◌, ◌++◌, length, refl, sym, ap, subst, ◌∙◌, arith, inl, inr, eq-eqb}
use Rattle.std.specs.Prelude.{Option, Some, None, slice_get, slice_set, ◌⊎◌}
use Rattle.std.specs.List.{All, position_from}
use Rattle.std.specs.Option.{option_flatten}
use Rattle.std.proofs.lemmas.Bool.{eqb-true, cases_eq}
use Rattle.std.proofs.lemmas.List.Elements.{All-head, All-tail}
use Rattle.instructions.specs.Numbering.{AreNumbersOf, IsSameAt}

-- nothing more is known of any key
pub IsSameAt-push : (numbers : List (Option ℕ)) → IsSameAt numbers (numbers ++ None ∷ [])
IsSameAt-push [] zero = refl
IsSameAt-push [] (suc at) = refl
IsSameAt-push (n ∷ numbers) zero = refl
IsSameAt-push (n ∷ numbers) (suc at) = IsSameAt-push numbers at

slice_get-set_same : (xs : List (Option ℕ)) (i : ℕ) (x : Option ℕ) → i < length xs → slice_get (slice_set xs i x) i ≡ Some x
slice_get-set_same [] i x within = absurd (omega arith)
slice_get-set_same (y ∷ xs) zero x within = refl
slice_get-set_same (y ∷ xs) (suc i) x within = slice_get-set_same xs i x (omega arith)

slice_get-set_other : (xs : List (Option ℕ)) (i j : ℕ) (x : Option ℕ) → j ≢ i → slice_get (slice_set xs i x) j ≡ slice_get xs j
slice_get-set_other [] i j x other = refl
slice_get-set_other (y ∷ xs) zero zero x other = absurd (other refl)
slice_get-set_other (y ∷ xs) zero (suc j) x other = refl
slice_get-set_other (y ∷ xs) (suc i) zero x other = refl
slice_get-set_other (y ∷ xs) (suc i) (suc j) x other = slice_get-set_other xs i j x (λ e. other (ap suc e))

other_key : (a b : ℕ) → a ≢ b → nat_eq a b ≡ false
other_key a b other =
    let at : (t : Bool) → nat_eq a b ≡ t → nat_eq a b ≡ false =
    λ t. elim t as (λ t. nat_eq a b ≡ t → nat_eq a b ≡ false) [ true ↦ λ e. absurd (other (eqb-true a b e)) | false ↦ λ e. e ] in
    at (nat_eq a b) refl

same_key : (a : ℕ) → nat_eq a a ≡ true
same_key a = eq-eqb a a refl

-- a new key is found at the end alone
position-last : (xs : List ℕ) (x n : ℕ) → All (λ k. k ≢ x) xs → position_from (λ k. nat_eq k x) n (xs ++ x ∷ []) ≡ Some (n + length xs)
position-last [] x n all = rw (same_key x) (ap Some (omega arith))
position-last (y ∷ xs) x n all =
    rw (other_key y x (All-head (λ k. k ≢ x) y xs all)) (position-last xs x (n + 1) (All-tail (λ k. k ≢ x) y xs all) ∙ ap Some (omega arith))

-- and another key as before
position-other : (xs : List ℕ) (x at n : ℕ) → at ≢ x → position_from (λ k. nat_eq k at) n (xs ++ x ∷ []) ≡ position_from (λ k. nat_eq k at) n xs
position-other [] x at n other = rw (other_key x at (λ e. other (sym e))) refl
position-other (y ∷ xs) x at n other = ap (λ o. cond (nat_eq y at) (Some n) o) (position-other xs x at (n + 1) other)

set-numbers : (keys : List ℕ) (numbers : List (Option ℕ)) (x at : ℕ) → (at ≡ x) ⊎ (at ≢ x) → AreNumbersOf keys numbers → All (λ k. k ≢ x) keys → x < length numbers →
    option_flatten (slice_get (slice_set numbers x (Some (length keys))) at) ≡ position_from (λ k. nat_eq k at) 0 (keys ++ x ∷ [])
set-numbers keys numbers x at side are all within =
    elim side as (λ _. option_flatten (slice_get (slice_set numbers x (Some (length keys))) at) ≡ position_from (λ k. nat_eq k at) 0 (keys ++ x ∷ [])) [
      | inl same ↦
          let here : option_flatten (slice_get (slice_set numbers x (Some (length keys))) x) ≡ position_from (λ k. nat_eq k x) 0 (keys ++ x ∷ []) =
          ap option_flatten (slice_get-set_same numbers x (Some (length keys)) within) ∙ sym (position-last keys x 0 all ∙ ap Some (omega arith)) in
          let Holds : ℕ → Type 0 = λ j. option_flatten (slice_get (slice_set numbers x (Some (length keys))) j) ≡ position_from (λ k. nat_eq k j) 0 (keys ++ x ∷ []) in
          subst Holds (sym same) here
      | inr other ↦
          ap option_flatten (slice_get-set_other numbers x at (Some (length keys)) other) ∙ are at ∙ sym (position-other keys x at 0 other)
    ]

-- one number more
pub AreNumbersOf-push : (keys : List ℕ) (old numbers : List (Option ℕ)) (x : ℕ) → AreNumbersOf keys old → IsSameAt old numbers → All (λ k. k ≢ x) keys → x < length numbers →
    AreNumbersOf (keys ++ x ∷ []) (slice_set numbers x (Some (length keys)))
AreNumbersOf-push keys old numbers x are same all within at =
    set-numbers keys numbers x at (cases_eq at x) (λ j. same j ∙ are j) all within
