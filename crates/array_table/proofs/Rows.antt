-- The arrays with a given number of dimensions, one base after another.
use Rattle.std.proofs.Common.{◌≡◌, ◌≢◌, ◌⊎◌, ℕ, zero, suc, ◌+◌, ◌<◌, ◌≤◌, ◌==◌, ◌&&◌, Bool, true, false, cond, nat_le, List, [], ◌∷◌, ◌++◌, length, take, slice_get, Option, None, Some, inl, inr, refl, sym, ap, subst, ◌∙◌, append_assoc, zero-add, arith}
use Rattle.std.specs.Option.{option_map, option_flatten}
use borrow.Author.Tests.{ne_eqb, eq-eqb}
use Rattle.std.proofs.lemmas.Bool.{cases_lt, cases_eq}
use Rattle.std.proofs.lemmas.List.{append-nil, length_push, length-take-le}
use Rattle.std.proofs.lemmas.Option.{none-some, slice_get_past, slice_get_within}
use Rattle.class_read.proofs.FindLaws.{take_next}
use Rattle.link_rules.proofs.Lists.{position_stays, before_at}
use Rattle.class_supers.proofs.AboveLaws.{last_at}
use Rattle.array_table.specs.declared.place.ArrayPlace.{ArrayPlace}
use Rattle.array_table.specs.Places.{place_of, places_of_dimensions, is_place, number_in}
use Rattle.array_table.specs.Row.{kept_in_row, IsRowOf}
use Rattle.array_table.proofs.Positions.{found_behind, dimensions_push}

-- the first bases have their numbers
pub record FirstInRow (start : List ArrayPlace) (d : ℕ) (most : List ℕ) (n : ℕ) (places : List ArrayPlace) (row : List (Option ℕ)) : Type 0 where
  pub places_are : places ≡ start ++ places_of_dimensions 0 (take n most) d
  pub row_is : IsRowOf (length start) d (take n most) row
  pub within : n ≤ length most
  pub few : length places ≤ length start + n

some_or_none : {X : Type 0} (o : Option X) → (o ≡ None) ⊎ ((x : X) × (o ≡ Some x))
some_or_none None = inl refl
some_or_none (Some x) = inr (x, refl)

-- one more base, which has an array with d dimensions or doesn't
row_more : (start d n m : ℕ) (xs : List ℕ) (row more : List (Option ℕ)) → length xs ≡ n → IsRowOf start d xs row
    → more ≡ row ++ cond (nat_le d m) (Some (start + length (places_of_dimensions 0 xs d))) None ∷ [] → IsRowOf start d (xs ++ m ∷ []) more
row_more start d n m xs row more size is push = record {
  count = ap length push ∙ length_push row _ ∙ ap (λ k. k + 1) is.count ∙ sym (length_push xs m);
  each = λ base. ap (λ r. kept_in_row r base) push ∙ step base (nat_le d m) (dimensions_push 0 d m xs);
}
  where
    old : ℕ → Option ℕ
    old base = number_in (places_of_dimensions 0 xs d) d base

    shifted : Option ℕ → Option ℕ
    shifted o = option_map (λ i. start + i) o

    -- a base after these has no number yet
    none_yet : (base : ℕ) → n ≤ base → (o : Option ℕ) → number_in (places_of_dimensions 0 xs d) d base ≡ o → o ≡ None
    none_yet base le None e = refl
    none_yet base le (Some i) e =
        let count = is.count in
        let nothing : kept_in_row row base ≡ None = ap option_flatten (slice_get_past row base (omega arith)) in
        let some : kept_in_row row base ≡ Some (start + i) = is.each base ∙ ap (option_map (λ i. start + i)) e in
        absurd (none-some (start + i) (sym nothing ∙ some))

    here : ℕ
    here = 0 + length xs

    tested : (base : ℕ) → base ≢ n → is_place d base (place_of d (0 + length xs)) ≡ false
    tested base ne = ap (λ t. t && (0 + length xs) == base) (eq-eqb d d refl) ∙ ne_eqb (0 + length xs) base (λ e. ne (omega (arith, e)))

    found : (base : ℕ) → base ≡ n → is_place d base (place_of d (0 + length xs)) ≡ true
    found base e = ap (λ t. t && (0 + length xs) == base) (eq-eqb d d refl) ∙ eq-eqb (0 + length xs) base (omega arith)

    kept_last : (base : ℕ) (o : Option ℕ) → base ≡ n → kept_in_row (row ++ o ∷ []) base ≡ o
    kept_last base o e = ap option_flatten (last_at row o base (let count = is.count in omega arith))

    kept_other : (base : ℕ) (o : Option ℕ) → base ≢ n → kept_in_row (row ++ o ∷ []) base ≡ kept_in_row row base
    kept_other base o ne = elim (cases_lt base n) [
      | inl less ↦ ap option_flatten (before_at row (o ∷ []) base (let count = is.count in omega arith))
      | inr more ↦ ap option_flatten (slice_get_past (row ++ o ∷ []) base (let count = is.count in let push = length_push row o in omega (arith, ne)) ∙ sym (slice_get_past row base (let count = is.count in omega arith)))
    ]

    one_more : (base : ℕ) (o : Option ℕ) → number_in (places_of_dimensions 0 xs d) d base ≡ o
        → number_in (places_of_dimensions 0 xs d ++ place_of d (0 + length xs) ∷ []) d base ≡ Rattle.link_rules.specs.Members.or_first o (cond (is_place d base (place_of d (0 + length xs))) (Some (length (places_of_dimensions 0 xs d) + 0)) None)
    one_more base None e = found_behind (is_place d base) (places_of_dimensions 0 xs d) (place_of d (0 + length xs) ∷ []) e ∙ one (is_place d base (place_of d (0 + length xs)))
      where
        one : (b : Bool) → option_map (λ i. length (places_of_dimensions 0 xs d) + i) (cond b (Some 0) None) ≡ cond b (Some (length (places_of_dimensions 0 xs d) + 0)) None
        one true = refl
        one false = refl
    one_more base (Some i) e = position_stays (is_place d base) 0 i (places_of_dimensions 0 xs d) (place_of d (0 + length xs) ∷ []) e

    step : (base : ℕ) (t : Bool) → places_of_dimensions 0 (xs ++ m ∷ []) d ≡ places_of_dimensions 0 xs d ++ cond t (place_of d (0 + length xs) ∷ []) []
        → kept_in_row (row ++ cond t (Some (start + length (places_of_dimensions 0 xs d))) None ∷ []) base ≡ option_map (λ i. start + i) (number_in (places_of_dimensions 0 (xs ++ m ∷ []) d) d base)
    step base false places =
        let same : number_in (places_of_dimensions 0 (xs ++ m ∷ []) d) d base ≡ number_in (places_of_dimensions 0 xs d) d base = ap (λ ps. number_in ps d base) (places ∙ append-nil (places_of_dimensions 0 xs d)) in
        elim (cases_eq base n) [
          | inl e ↦ kept_last base None e ∙ sym (ap (option_map (λ i. start + i)) (same ∙ none_yet base (omega arith) (number_in (places_of_dimensions 0 xs d) d base) refl))
          | inr ne ↦ kept_other base None ne ∙ is.each base ∙ ap (option_map (λ i. start + i)) (sym same)
        ]
    step base true places =
        let moved : number_in (places_of_dimensions 0 (xs ++ m ∷ []) d) d base ≡ number_in (places_of_dimensions 0 xs d ++ place_of d (0 + length xs) ∷ []) d base = ap (λ ps. number_in ps d base) places in
        elim (cases_eq base n) [
          | inl e ↦
              let none : number_in (places_of_dimensions 0 xs d) d base ≡ None = none_yet base (omega arith) (number_in (places_of_dimensions 0 xs d) d base) refl in
              let count : length (places_of_dimensions 0 xs d) + 0 ≡ length (places_of_dimensions 0 xs d) = omega arith in
              kept_last base (Some (start + length (places_of_dimensions 0 xs d))) e
              ∙ ap (λ k. Some (start + k)) (sym count)
              ∙ sym (ap (option_map (λ i. start + i)) (moved ∙ one_more base None none ∙ ap (λ b. cond b (Some (length (places_of_dimensions 0 xs d) + 0)) None) (found base e)))
          | inr ne ↦ kept_other base (Some (start + length (places_of_dimensions 0 xs d))) ne ∙ is.each base ∙ sym (ap (option_map (λ i. start + i)) (moved ∙ stays (number_in (places_of_dimensions 0 xs d) d base) refl ne))
        ]
      where
        stays : (o : Option ℕ) → number_in (places_of_dimensions 0 xs d) d base ≡ o → base ≢ n → number_in (places_of_dimensions 0 xs d ++ place_of d (0 + length xs) ∷ []) d base ≡ number_in (places_of_dimensions 0 xs d) d base
        stays None e ne = one_more base None e ∙ ap (λ b. cond b (Some (length (places_of_dimensions 0 xs d) + 0)) None) (tested base ne) ∙ sym e
        stays (Some i) e ne = one_more base (Some i) e ∙ sym e

pub bases_more : (start : List ArrayPlace) (d : ℕ) (most : List ℕ) (n m : ℕ) (old new : List ArrayPlace) (row more : List (Option ℕ)) → slice_get most n ≡ Some m → FirstInRow start d most n old row
    → new ≡ old ++ cond (nat_le d m) (place_of d n ∷ []) [] → more ≡ row ++ cond (nat_le d m) (Some (length old)) None ∷ [] → FirstInRow start d most (n + 1) new more
bases_more start d most n m old new row more at first places push =
    let next : take (n + 1) most ≡ take n most ++ m ∷ [] = take_next most n m at in
    let size : length (take n most) ≡ n = length-take-le n most first.within in
    let here : 0 + length (take n most) ≡ n = zero-add (length (take n most)) ∙ size in
    let many : length old ≡ length start + length (places_of_dimensions 0 (take n most) d) = ap length first.places_are ∙ Rattle.std.proofs.Common.length-append start (places_of_dimensions 0 (take n most) d) in
    record {
      places_are =
          places ∙ ap (λ xs. xs ++ cond (nat_le d m) (place_of d n ∷ []) []) first.places_are
          ∙ append_assoc start (places_of_dimensions 0 (take n most) d) (cond (nat_le d m) (place_of d n ∷ []) [])
          ∙ ap (λ xs. start ++ xs) (ap (λ k. places_of_dimensions 0 (take n most) d ++ cond (nat_le d m) (place_of d k ∷ []) []) (sym here) ∙ sym (dimensions_push 0 d m (take n most)) ∙ ap (λ xs. places_of_dimensions 0 xs d) (sym next));
      row_is = subst (λ xs. IsRowOf (length start) d xs more) (sym next)
          (row_more (length start) d n m (take n most) row more size first.row_is (push ∙ ap (λ k. row ++ cond (nat_le d m) (Some k) None ∷ []) many));
      within = (let lt = slice_get_within most n m at in omega arith);
      few = (let few = first.few in let sum : length new ≡ length old + length (cond (nat_le d m) (place_of d n ∷ []) []) = ap length places ∙ Rattle.std.proofs.Common.length-append old (cond (nat_le d m) (place_of d n ∷ []) []) in let one = at_most_one (nat_le d m) in omega arith);
    }
  where
    at_most_one : (t : Bool) → length (cond t (place_of d n ∷ []) []) ≤ 1
    at_most_one true = omega arith
    at_most_one false = omega arith

pub no_bases : (start : List ArrayPlace) (d : ℕ) (most : List ℕ) → FirstInRow start d most 0 start []
no_bases start d most = record {
  places_are = sym (append-nil start);
  row_is = record { count = refl; each = λ base. refl };
  within = omega arith;
  few = omega arith;
}
