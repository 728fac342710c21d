-- Rows of pages.
use Rattle.std.proofs.Common.{◌≡◌, ◌≢◌, inl, inr, ℕ, zero, suc, ◌/◌, ◌%◌, ◌<◌, ◌≤◌, Bool, true, false, cond, List, [], ◌∷◌, ◌++◌, map, length, get_or, slice_set, replicate, Result, Ok, Err, refl, sym, ◌∙◌, ap, subst, arith}
use Rattle.std.proofs.Math.Path.{fun_ext}
use Rattle.std.proofs.Math.Nat.{div-add-mod}
use Rattle.std.proofs.lemmas.Bool.Decides.{leb_tells, eqb_tells}
use Rattle.std.proofs.lemmas.List.{map-append, get_or-replicate, get_or_past, get_or-set_other, length-replicate}
use Rattle.std.proofs.lemmas.Grind.{get_or-set_at}
use Rattle.std.specs.Result.{OnErr}
use Rattle.shared_rows.specs.Rows.{number_in, set_at}

zeros_index : (n i : ℕ) → get_or (replicate {A = ℕ} n 0) i 0 ≡ 0
zeros_index n i = elim (leb_tells n i) [
  | inl past ↦ get_or_past (replicate n 0) i 0 (subst (λ k. k ≤ i) (sym (length-replicate {A = ℕ} n 0)) past.1)
  | inr inside ↦ get_or-replicate n i 0 0 (omega (arith, inside.1))
]

-- a page of zeros after the others
more_on : (pages : List (List ℕ)) (n k i : ℕ) → get_or (get_or (pages ++ replicate n 0 ∷ []) k []) i 0 ≡ get_or (get_or pages k []) i 0
more_on [] n zero i = zeros_index n i
more_on [] n (suc k) i = refl
more_on (x ∷ pages) n zero i = refl
more_on (x ∷ pages) n (suc k) i = more_on pages n k i

pub numbers_more : {A : Type 0} (page : A → List ℕ) (pages more : List A) (x : A) (made : Bool) → more ≡ cond made (pages ++ x ∷ []) pages → page x ≡ replicate 64 0
    → number_in (map page more) ≡ number_in (map page pages)
numbers_more page pages more x true is zeros =
    ap (λ xs. number_in (map page xs)) is ∙ ap number_in (map-append page pages (x ∷ []) ∙ ap (λ y. map page pages ++ y ∷ []) zeros)
    ∙ fun_ext (λ place. more_on (map page pages) 64 (place / 64) (place % 64))
numbers_more page pages more x false is zeros = ap (λ xs. number_in (map page xs)) is

-- a place is determined by its page and by its place there
same_place : (j place : ℕ) → j / 64 ≡ place / 64 → j % 64 ≡ place % 64 → j ≡ place
same_place j place high low = omega (arith, div-add-mod j 64, div-add-mod place 64, high, low)

set_hit : (f : ℕ → ℕ) (place v j : ℕ) → j ≡ place → v ≡ set_at f place v j
set_hit f place v j here = elim (eqb_tells j place) [
  | inl same ↦ ap (λ b. cond b v (f j)) (sym same.0)
  | inr other ↦ absurd (other.1 here)
]

set_other : (f : ℕ → ℕ) (place v j : ℕ) → j ≢ place → f j ≡ set_at f place v j
set_other f place v j there = elim (eqb_tells j place) [
  | inl same ↦ absurd (there same.1)
  | inr other ↦ ap (λ b. cond b v (f j)) (sym other.0)
]

-- a number set in its page
pub numbers_set : (pages : List (List ℕ)) (page : List ℕ) (place v : ℕ) → place / 64 < length pages → page ≡ get_or pages (place / 64) [] → place % 64 < length page
    → number_in (slice_set pages (place / 64) (slice_set page (place % 64) v)) ≡ set_at (number_in pages) place v
numbers_set pages page place v inside is low = fun_ext (λ j. of j)
  where
    changed : List ℕ
    changed = slice_set page (place % 64) v

    at_page : (j : ℕ) → j / 64 ≡ place / 64 → number_in (slice_set pages (place / 64) changed) j ≡ get_or changed (j % 64) 0
    at_page j here = ap (λ x. get_or x (j % 64) 0) (get_or-set_at pages (place / 64) (j / 64) changed [] here inside)

    of : (j : ℕ) → number_in (slice_set pages (place / 64) changed) j ≡ set_at (number_in pages) place v j
    of j = elim (eqb_tells (j / 64) (place / 64)) [
      | inr other ↦ ap (λ x. get_or x (j % 64) 0) (get_or-set_other pages (place / 64) (j / 64) changed [] other.1)
          ∙ set_other (number_in pages) place v j (λ same. other.1 (ap (λ x. x / 64) same))
      | inl here ↦ elim (eqb_tells (j % 64) (place % 64)) [
        | inl same ↦ at_page j here.1 ∙ get_or-set_at page (place % 64) (j % 64) v 0 same.1 low
            ∙ set_hit (number_in pages) place v j (same_place j place here.1 same.1)
        | inr other ↦ at_page j here.1 ∙ get_or-set_other page (place % 64) (j % 64) v 0 other.1
            ∙ ap (λ x. get_or x (j % 64) 0) (is ∙ ap (λ k. get_or pages k []) (sym here.1))
            ∙ set_other (number_in pages) place v j (λ same. other.1 (ap (λ x. x % 64) same))
      ]
    ]

-- what is so anyway is so where there is an error
pub on_err : {T E P : Type 0} (r : Result T E) → P → OnErr r P
on_err (Ok x) p = tt
on_err (Err e) p = p
