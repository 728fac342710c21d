-- The arrays of all numbers of dimensions.
use Rattle.std.proofs.Common.{◌≡◌, ◌≢◌, ◌⊎◌, ℕ, zero, suc, ◌+◌, ◌*◌, ◌≤◌, List, [], ◌∷◌, ◌++◌, length, Option, None, Some, inl, inr, refl, sym, ap, subst, ◌∙◌, length-append, arith}
use Rattle.std.specs.Option.{option_map, option_and_then}
use Rattle.std.proofs.lemmas.Bool.{cases_lt, cases_eq}
use Rattle.std.proofs.lemmas.List.{length_push}
use Rattle.std.proofs.lemmas.Option.{slice_get_past}
use Rattle.link_rules.proofs.Lists.{position_stays, before_at}
use Rattle.class_supers.proofs.AboveLaws.{last_at}
use Rattle.array_table.specs.declared.place.ArrayPlace.{ArrayPlace}
use Rattle.array_table.specs.declared.table.ArrayTable.{ArrayTable}
use Rattle.array_table.specs.Places.{places_of_dimensions, places_from, places_in_order, is_place, number_in}
use Rattle.array_table.specs.Row.{kept_in_row, IsRowOf}
use Rattle.array_table.specs.Table.{kept_number, IsTableOf}
use Rattle.array_table.proofs.Positions.{found_behind, other_dimensions, from_more, dimensions_few}

-- the arrays of the first numbers of dimensions have their numbers
pub record FirstRows (most : List ℕ) (n : ℕ) (places : List ArrayPlace) (rows : List (List (Option ℕ))) : Type 0 where
  pub places_are : places ≡ places_from most n 1
  pub count : length rows ≡ n
  pub numbers : (d base : ℕ) → kept_number rows d base ≡ number_in places d base
  pub few : length places ≤ n * length most

pub no_rows : (most : List ℕ) → FirstRows most 0 [] []
unfolding places_from
no_rows most = record {
  places_are = refl;
  count = refl;
  numbers = nothing;
  few = omega arith;
}
  where
    nothing : (d base : ℕ) → kept_number [] d base ≡ None
    nothing zero base = refl
    nothing (suc d) base = refl

pub rows_more : (most : List ℕ) (n : ℕ) (old new : List ArrayPlace) (row : List (Option ℕ)) (rows more : List (List (Option ℕ))) → FirstRows most n old rows
    → new ≡ old ++ places_of_dimensions 0 most (n + 1) → IsRowOf (length old) (n + 1) most row → more ≡ rows ++ row ∷ [] → FirstRows most (n + 1) new more
rows_more most n old new row rows more first places is push = record {
  places_are =
      let one : n + 1 ≡ suc n = omega arith in
      let same : n + 1 ≡ 1 + n = omega arith in
      places ∙ ap (λ xs. xs ++ places_of_dimensions 0 most (n + 1)) first.places_are ∙ ap (λ k. places_from most n 1 ++ places_of_dimensions 0 most k) same
      ∙ sym (from_more most n 1) ∙ ap (λ k. places_from most k 1) (sym one);
  count = ap length push ∙ length_push rows row ∙ ap (λ k. k + 1) first.count;
  numbers = λ d base. ap (λ rs. kept_number rs d base) push ∙ step d base (cases_eq d (n + 1)) ∙ sym (ap (λ ps. number_in ps d base) places);
  few =
      (let sum : length new ≡ length old + length (places_of_dimensions 0 most (n + 1)) = ap length places ∙ length-append old (places_of_dimensions 0 most (n + 1)) in
      let one : length (places_of_dimensions 0 most (n + 1)) ≤ length most = dimensions_few 0 (n + 1) most in
      let few = first.few in
      omega arith);
}
  where
    stays : (d base : ℕ) → d ≢ n + 1 → (o : Option ℕ) → number_in old d base ≡ o → number_in (old ++ places_of_dimensions 0 most (n + 1)) d base ≡ number_in old d base
    stays d base ne None e = found_behind (is_place d base) old (places_of_dimensions 0 most (n + 1)) e ∙ ap (option_map (λ i. length old + i)) (other_dimensions d (n + 1) base 0 0 most ne) ∙ sym e
    stays d base ne (Some i) e = position_stays (is_place d base) 0 i old (places_of_dimensions 0 most (n + 1)) e ∙ sym e

    kept_other : (d base : ℕ) → d ≢ n + 1 → kept_number (rows ++ row ∷ []) d base ≡ kept_number rows d base
    kept_other zero base ne = refl
    kept_other (suc d) base ne = elim (cases_lt d n) [
      | inl less ↦ ap (option_and_then (λ (r : List (Option ℕ)). kept_in_row r base)) (before_at rows (row ∷ []) d (let count = first.count in omega arith))
      | inr more_than ↦ ap (option_and_then (λ (r : List (Option ℕ)). kept_in_row r base))
          (slice_get_past (rows ++ row ∷ []) d (let count = first.count in let push = length_push rows row in omega (arith, ne)) ∙ sym (slice_get_past rows d (let count = first.count in omega arith)))
    ]

    -- no array with n + 1 dimensions was there
    none_yet : (base : ℕ) → number_in old (suc n) base ≡ None
    none_yet base = sym (first.numbers (suc n) base) ∙ ap (option_and_then (λ (r : List (Option ℕ)). kept_in_row r base)) (slice_get_past rows n (let count = first.count in omega arith))

    last : (base : ℕ) → kept_number (rows ++ row ∷ []) (suc n) base ≡ number_in (old ++ places_of_dimensions 0 most (n + 1)) (suc n) base
    last base =
        let one : n + 1 ≡ suc n = omega arith in
        ap (option_and_then (λ (r : List (Option ℕ)). kept_in_row r base)) (last_at rows row n (sym first.count))
        ∙ is.each base
        ∙ ap (λ k. option_map (λ i. length old + i) (number_in (places_of_dimensions 0 most (n + 1)) k base)) one
        ∙ sym (found_behind (is_place (suc n) base) old (places_of_dimensions 0 most (n + 1)) (none_yet base))

    step : (d base : ℕ) → (d ≡ n + 1) ⊎ (d ≢ n + 1) → kept_number (rows ++ row ∷ []) d base ≡ number_in (old ++ places_of_dimensions 0 most (n + 1)) d base
    step d base (inl same) =
        let is_last : suc n ≡ d = omega arith in
        subst (λ k. kept_number (rows ++ row ∷ []) k base ≡ number_in (old ++ places_of_dimensions 0 most (n + 1)) k base) is_last (last base)
    step d base (inr ne) = kept_other d base ne ∙ first.numbers d base ∙ sym (stays d base ne (number_in old d base) refl)

pub all_rows : (most : List ℕ) (n : ℕ) (table : ArrayTable) → n ≡ 255 → FirstRows most n table.places.items table.numbers.items → table.count ≡ length table.places.items → IsTableOf most table
unfolding places_in_order
all_rows most n table whole first many =
    let all : table.places.items ≡ places_from most 255 1 = first.places_are ∙ ap (λ k. places_from most k 1) whole in
    record {
      places = all;
      numbers = λ d base. first.numbers d base ∙ ap (λ ps. number_in ps d base) all;
      how_many = many ∙ ap length all;
    }
