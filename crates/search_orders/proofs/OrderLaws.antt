-- Lists in which each number occurs once.
use Rattle.std.proofs.Common.{◌≡◌, ◌≢◌, ℕ, zero, suc, ◌+◌, ◌<◌, ◌==◌, ◌||◌, Bool, true, false, cond, List, [], ◌∷◌, ◌++◌, flat_map, length, get_or, slice_set, inl, inr, refl, sym, ◌∙◌, ap, arith, append_assoc}
use borrow.Author.Tests.{eqb-true, eqb-false, eq-eqb, ne_eqb}
use Rattle.std.proofs.lemmas.Bool.{cases_Bool, true≢false}
use Rattle.std.proofs.lemmas.List.{get_or-set_other}
use Rattle.std.proofs.lemmas.Grind.{get_or-set_at}
use Rattle.search_orders.specs.Orders.{has_number, put, put_all, without_repeats, one_behind, rank, HasRanks}

-- ---- ranks

behind_none : (n : ℕ) → one_behind n ≡ 0 → n ≡ 0
behind_none zero e = refl
behind_none (suc n) e = absurd (omega (arith, e))

behind_some : (n : ℕ) → n ≢ 0 → one_behind n ≡ suc n
behind_some zero ne = absurd (ne refl)
behind_some (suc n) ne = refl

-- a number has a rank exactly where it is there
pub ranked : (xs : List ℕ) (x : ℕ) → has_number xs x ≡ true → rank xs x ≢ 0
ranked [] x h = absurd (true≢false (sym h))
ranked (y ∷ ys) x h = elim (cases_Bool (y == x)) [
  | inl same ↦ rw same (λ e. omega (arith, e))
  | inr other ↦ let there : has_number ys x ≡ true = rw other at h in rw other (λ e. ranked ys x there (behind_none (rank ys x) e))
]

pub unranked : (xs : List ℕ) (x : ℕ) → has_number xs x ≡ false → rank xs x ≡ 0
unranked [] x h = refl
unranked (y ∷ ys) x h = elim (cases_Bool (y == x)) [
  | inl same ↦ absurd (true≢false (rw same at h))
  | inr other ↦ let there : has_number ys x ≡ false = rw other at h in rw other (ap one_behind (unranked ys x there))
]

pub not_there : (xs : List ℕ) (x : ℕ) → rank xs x ≡ 0 → has_number xs x ≡ false
not_there xs x e = elim (cases_Bool (has_number xs x)) [
  | inl there ↦ absurd (ranked xs x there e)
  | inr none ↦ none
]

pub is_there : (xs : List ℕ) (x : ℕ) → rank xs x ≢ 0 → has_number xs x ≡ true
is_there xs x ne = elim (cases_Bool (has_number xs x)) [
  | inl there ↦ there
  | inr none ↦ absurd (ne (unranked xs x none))
]

-- one more at the end
pub rank_last : (xs : List ℕ) (y : ℕ) → rank xs y ≡ 0 → rank (xs ++ y ∷ []) y ≡ suc (length xs)
rank_last [] y e = let same : (y == y) ≡ true = eq-eqb y y refl in rw same refl
rank_last (x ∷ xs) y e = elim (cases_Bool (x == y)) [
  | inl same ↦ absurd (let z : 1 ≡ 0 = rw same at e in omega (arith, z))
  | inr other ↦ let none : one_behind (rank xs y) ≡ 0 = rw other at e in rw other (ap one_behind (rank_last xs y (behind_none (rank xs y) none)))
]

pub rank_before : (xs : List ℕ) (y x : ℕ) → y ≢ x → rank (xs ++ y ∷ []) x ≡ rank xs x
rank_before [] y x ne = let other : (y == x) ≡ false = ne_eqb y x ne in rw other refl
rank_before (z ∷ xs) y x ne = ap (λ n. cond (z == x) 1 (one_behind n)) (rank_before xs y x ne)

-- ---- ranks as a table

-- zeros at the end say nothing
pub zero_more : (ranks : List ℕ) (n : ℕ) → get_or (ranks ++ 0 ∷ []) n 0 ≡ get_or ranks n 0
zero_more [] zero = refl
zero_more [] (suc n) = refl
zero_more (r ∷ ranks) zero = refl
zero_more (r ∷ ranks) (suc n) = zero_more ranks n

-- the table with the rank of a number that is put at the end
pub ranks_put : (xs : List ℕ) (old ranks : List ℕ) (y r : ℕ) → HasRanks xs old → rank xs y ≡ 0 → ((n : ℕ) → get_or ranks n 0 ≡ get_or old n 0) → y < length ranks → r ≡ length xs + 1
    → HasRanks (xs ++ y ∷ []) (slice_set ranks y r)
ranks_put xs old ranks y r has new same inside is n = elim (cases_Bool (y == n)) [
  | inl here ↦
      let e : n ≡ y = sym (eqb-true y n here) in
      get_or-set_at ranks y n r 0 e inside ∙ (let sum : r ≡ suc (length xs) = omega arith in sum) ∙ sym (rank_last xs y new) ∙ ap (rank (xs ++ y ∷ [])) (sym e)
  | inr there ↦
      let ne : y ≢ n = eqb-false y n there in
      get_or-set_other ranks y n r 0 (λ z. ne (sym z)) ∙ same n ∙ has n ∙ sym (rank_before xs y n ne)
]

pub put_new : (xs : List ℕ) (y : ℕ) → rank xs y ≡ 0 → put xs y ≡ xs ++ y ∷ []
put_new xs y new = let none : has_number xs y ≡ false = not_there xs y new in rw none refl

pub put_old : (xs : List ℕ) (y : ℕ) → rank xs y ≢ 0 → put xs y ≡ xs
put_old xs y old = let there : has_number xs y ≡ true = is_there xs y old in rw there refl

-- ---- numbers put one after the other

has_last : (xs : List ℕ) (y x : ℕ) → has_number (xs ++ y ∷ []) x ≡ (has_number xs x || y == x)
has_last [] y x = elim (y == x) as (λ b. (b || false) ≡ (false || b)) [ true ↦ refl | false ↦ refl ]
has_last (z ∷ xs) y x = elim (z == x) as (λ b. (b || has_number (xs ++ y ∷ []) x) ≡ ((b || has_number xs x) || y == x)) [
  | true ↦ refl
  | false ↦ has_last xs y x
]

pub has_put : (xs : List ℕ) (y x : ℕ) → has_number (put xs y) x ≡ (has_number xs x || y == x)
has_put xs y x = elim (cases_Bool (has_number xs y)) [
  | inl there ↦
      let left : put xs y ≡ xs = rw there refl in
      ap (λ zs. has_number zs x) left ∙ elim (cases_Bool (y == x)) [
        | inl same ↦
            let its : has_number xs x ≡ true = ap (has_number xs) (sym (eqb-true y x same)) ∙ there in
            its ∙ sym (ap (λ b. b || y == x) its)
        | inr other ↦ sym (ap (λ b. has_number xs x || b) other ∙ or_false (has_number xs x))
      ]
  | inr none ↦ (let left : put xs y ≡ xs ++ y ∷ [] = rw none refl in ap (λ zs. has_number zs x) left ∙ has_last xs y x)
]
  where
    or_false : (b : Bool) → (b || false) ≡ b
    or_false true = refl
    or_false false = refl

pub has_put_all : (xs ys : List ℕ) (x : ℕ) → has_number (put_all xs ys) x ≡ (has_number xs x || has_number ys x)
has_put_all xs [] x = elim (has_number xs x) as (λ b. b ≡ (b || false)) [ true ↦ refl | false ↦ refl ]
has_put_all xs (y ∷ ys) x = has_put_all (put xs y) ys x ∙ ap (λ b. b || has_number ys x) (has_put xs y x) ∙ or_or (has_number xs x) (y == x) (has_number ys x)
  where
    or_or : (a b c : Bool) → ((a || b) || c) ≡ (a || (b || c))
    or_or true b c = refl
    or_or false b c = refl

pub put_all_append : (xs ys zs : List ℕ) → put_all xs (ys ++ zs) ≡ put_all (put_all xs ys) zs
put_all_append xs [] zs = refl
put_all_append xs (y ∷ ys) zs = put_all_append (put xs y) ys zs

-- what a list has changes nothing
pub put_all_there : (xs ys : List ℕ) → ((y : ℕ) → has_number ys y ≡ true → has_number xs y ≡ true) → put_all xs ys ≡ xs
put_all_there xs [] has = refl
put_all_there xs (y ∷ ys) has =
    let here : has_number xs y ≡ true = has y (let same : (y == y) ≡ true = eq-eqb y y refl in rw same refl) in
    let stays : put xs y ≡ xs = rw here refl in
    ap (λ zs. put_all zs ys) stays ∙ put_all_there xs ys (λ z there. has z (elim (y == z) as (λ b. (b || has_number ys z) ≡ true) [ true ↦ refl | false ↦ there ]))

put_all_put : (xs zs : List ℕ) (y : ℕ) → put_all xs (put zs y) ≡ put (put_all xs zs) y
put_all_put xs zs y = elim (cases_Bool (has_number zs y)) [
  | inl there ↦
      let its : has_number (put_all xs zs) y ≡ true = has_put_all xs zs y ∙ (rw there (elim (has_number xs y) as (λ b. (b || true) ≡ true) [ true ↦ refl | false ↦ refl ])) in
      let left : put zs y ≡ zs = rw there refl in
      let right : put (put_all xs zs) y ≡ put_all xs zs = rw its refl in
      ap (put_all xs) left ∙ sym right
  | inr none ↦ (let left : put zs y ≡ zs ++ y ∷ [] = rw none refl in ap (put_all xs) left ∙ put_all_append xs zs (y ∷ []))
]

put_all_twice : (xs zs ys : List ℕ) → put_all xs (put_all zs ys) ≡ put_all (put_all xs zs) ys
put_all_twice xs zs [] = refl
put_all_twice xs zs (y ∷ ys) = put_all_twice xs (put zs y) ys ∙ ap (λ us. put_all us ys) (put_all_put xs zs y)

-- a list may be put without its repeats
pub put_all_once : (xs ys : List ℕ) → put_all xs (without_repeats ys) ≡ put_all xs ys
put_all_once xs ys = put_all_twice xs [] ys

pub once_append : (xs ys : List ℕ) → without_repeats (xs ++ ys) ≡ put_all (without_repeats xs) (without_repeats ys)
once_append xs ys = put_all_append [] xs ys ∙ sym (put_all_once (without_repeats xs) ys)

-- what each of some numbers brings, where one that was there brings nothing new

has_append : (xs ys : List ℕ) (x : ℕ) → has_number (xs ++ ys) x ≡ (has_number xs x || has_number ys x)
has_append [] ys x = refl
has_append (y ∷ xs) ys x = elim (y == x) as (λ b. (b || has_number (xs ++ ys) x) ≡ ((b || has_number xs x) || has_number ys x)) [
  | true ↦ refl
  | false ↦ has_append xs ys x
]

or_left : (a b : Bool) → a ≡ true → (a || b) ≡ true
or_left true b e = refl
or_left false b e = absurd (true≢false (sym e))

or_right : (a b : Bool) → b ≡ true → (a || b) ≡ true
or_right true b e = refl
or_right false b e = e

brought : (g : ℕ → List ℕ) (xs : List ℕ) (y x : ℕ) → has_number xs y ≡ true → has_number (g y) x ≡ true → has_number (flat_map g xs) x ≡ true
brought g [] y x there its = absurd (true≢false (sym there))
brought g (z ∷ xs) y x there its = has_append (g z) (flat_map g xs) x ∙ elim (cases_Bool (z == y)) [
  | inl same ↦ or_left (has_number (g z) x) (has_number (flat_map g xs) x) (ap (λ n. has_number (g n) x) (eqb-true z y same) ∙ its)
  | inr other ↦ or_right (has_number (g z) x) (has_number (flat_map g xs) x) (brought g xs y x (rw other at there) its)
]

flat_map_append : (g : ℕ → List ℕ) (xs ys : List ℕ) → flat_map g (xs ++ ys) ≡ flat_map g xs ++ flat_map g ys
flat_map_append g [] ys = refl
flat_map_append g (x ∷ xs) ys = ap (λ zs. g x ++ zs) (flat_map_append g xs ys) ∙ sym (append_assoc (g x) (flat_map g xs) (flat_map g ys))

bring_put : (g : ℕ → List ℕ) (zs : List ℕ) (y : ℕ) → without_repeats (flat_map g (put zs y)) ≡ without_repeats (flat_map g zs ++ g y)
bring_put g zs y = elim (cases_Bool (has_number zs y)) [
  | inl there ↦
      let stays : put zs y ≡ zs = rw there refl in
      let all = λ (x : ℕ) (its : has_number (g y) x ≡ true). has_put_all [] (flat_map g zs) x ∙ brought g zs y x there its in
      ap (λ us. without_repeats (flat_map g us)) stays ∙ sym (put_all_append [] (flat_map g zs) (g y) ∙ put_all_there (without_repeats (flat_map g zs)) (g y) all)
  | inr none ↦
      (let new : put zs y ≡ zs ++ y ∷ [] = rw none refl in
      ap (λ us. without_repeats (flat_map g us)) new ∙ ap without_repeats (flat_map_append g zs (y ∷ []) ∙ ap (λ us. flat_map g zs ++ us) (last (g y))))
]
  where
    last : (us : List ℕ) → us ++ [] ≡ us
    last [] = refl
    last (u ∷ us) = ap (λ vs. u ∷ vs) (last us)

bring_put_all : (g : ℕ → List ℕ) (zs ys : List ℕ) → without_repeats (flat_map g (put_all zs ys)) ≡ without_repeats (flat_map g zs ++ flat_map g ys)
bring_put_all g zs [] = ap without_repeats (sym (last (flat_map g zs)))
  where
    last : (us : List ℕ) → us ++ [] ≡ us
    last [] = refl
    last (u ∷ us) = ap (λ vs. u ∷ vs) (last us)
bring_put_all g zs (y ∷ ys) =
    bring_put_all g (put zs y) ys
    ∙ once_append (flat_map g (put zs y)) (flat_map g ys)
    ∙ ap (λ us. put_all us (without_repeats (flat_map g ys))) (bring_put g zs y)
    ∙ sym (once_append (flat_map g zs ++ g y) (flat_map g ys))
    ∙ ap without_repeats (append_assoc (flat_map g zs) (g y) (flat_map g ys))

-- a number that comes again brings nothing new
pub bring_once : (g : ℕ → List ℕ) (ys : List ℕ) → without_repeats (flat_map g (without_repeats ys)) ≡ without_repeats (flat_map g ys)
bring_once g ys = bring_put_all g [] ys
