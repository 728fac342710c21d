-- A pool with one entry more.
use Rattle.std.proofs.Common.{◌≡◌, ℕ, zero, suc, ◌+◌, ◌<◌, ◌≤◌, ◌^◌, Bool, true, false, cond, List, [], ◌∷◌, ◌++◌, length, Option, Some, None, slice_get, ◌⊎◌, inl, inr, refl, sym, ap, ◌∙◌, arith, true≢false, add-zero}
use Rattle.std.specs.List.{position_from, AllByRecursion}
use Rattle.std.proofs.lemmas.Bool.{cases_Bool}
use Rattle.class_walk.specs.declared.class.Constant.{Constant}
use Rattle.class_walk.specs.declared.class.Constant.TheVariants.{Gap}
use Rattle.class_walk.specs.Layout.{is_gap, is_wide, IsGapped, Fits}
use Rattle.assembler_pool.specs.Uses.{is_same, index_of, slots, HasRoom}
use Rattle.assembler_pool.specs.Indexed.{AreDifferent, is_gap_due, IsMade}
use Rattle.assembler_pool.proofs.SameLaws.{same_are_equal, same_as_itself}

-- an index, or else another one
abbrev pub found_or : Option ℕ → Option ℕ → Option ℕ
found_or (Some index) other = Some index
found_or None other = other

pub found_or-none : (o : Option ℕ) → found_or o None ≡ o
found_or-none (Some index) = refl
found_or-none None = refl

abbrev pub slots_by : Bool → Constant → List Constant
slots_by wide c = cond wide (c ∷ Gap ∷ []) (c ∷ [])

position-slots : (wide : Bool) (test : Constant → Bool) (k : ℕ) (c : Constant) → test Gap ≡ false → position_from test k (slots_by wide c) ≡ cond (test c) (Some k) None
position-slots true test k c other = rw other refl
position-slots false test k c other = refl

pub position-pushed : (test : Constant → Bool) (k : ℕ) (pool : List Constant) (c : Constant) → test Gap ≡ false →
    position_from test k (pool ++ slots c) ≡ found_or (position_from test k pool) (cond (test c) (Some (k + length pool)) None)
position-pushed test k [] c other = rw (add-zero) (position-slots (is_wide c) test k c other)
position-pushed test k (x ∷ pool) c other =
    let sum : k + 1 + length pool ≡ k + suc (length pool) = omega arith in
    let step : position_from test (k + 1) (pool ++ slots c) ≡ found_or (position_from test (k + 1) pool) (cond (test c) (Some (k + suc (length pool))) None) =
    position-pushed test (k + 1) pool c other ∙ ap (λ (n : ℕ). found_or (position_from test (k + 1) pool) (cond (test c) (Some n) None)) sum in
    elim (test x) as (λ b. cond b (Some k) (position_from test (k + 1) (pool ++ slots c)) ≡ found_or (cond b (Some k) (position_from test (k + 1) pool)) (cond (test c) (Some (k + suc (length pool))) None)) [
      | true ↦ refl
      | false ↦ step
    ]

-- an entry with an index is at that index
pub index_is_at : (c : Constant) (k : ℕ) (pool : List Constant) (n : ℕ) → position_from (λ e. is_same e c) k pool ≡ Some n → (j : ℕ) × (n ≡ k + j) × (slice_get pool j ≡ Some c)
index_is_at c k [] n e = absurd cc
index_is_at c k (x ∷ pool) n e = by_cases (index_is_at c (k + 1) pool n) (cases_Bool (is_same x c))
  where
    by_cases : (position_from (λ y. is_same y c) (k + 1) pool ≡ Some n → (j : ℕ) × (n ≡ k + 1 + j) × (slice_get pool j ≡ Some c)) → (is_same x c ≡ true) ⊎ (is_same x c ≡ false) → (j : ℕ) × (n ≡ k + j) × (slice_get (x ∷ pool) j ≡ Some c)
    by_cases again (inl same) =
        let here : Some k ≡ Some n = rw same at e in
        let is : k ≡ n = cc in
        (0, sym is ∙ sym (add-zero k), ap (λ (y : Constant). Some y) (same_are_equal x c same))
    by_cases again (inr other) =
        let later : position_from (λ y. is_same y c) (k + 1) pool ≡ Some n = rw other at e in
        let found = again later in
        (suc found.0, omega (arith, found.1), found.2)

pub stands_at_index : (c : Constant) (pool : List Constant) (n : ℕ) → index_of c pool ≡ Some n → slice_get pool n ≡ Some c
stands_at_index c pool n e =
    let found = index_is_at c 0 pool n e in
    let is : n ≡ found.0 = omega (arith, found.1) in
    rw is found.2

-- an entry without an index is not in the pool
none_is_same : (test : Constant → Bool) (k : ℕ) (pool : List Constant) (i : ℕ) (c : Constant) → slice_get pool i ≡ Some c → position_from test k pool ≡ None → test c ≡ false
none_is_same test k [] i c at none = absurd cc
none_is_same test k (x ∷ pool) zero c at none =
    let is : x ≡ c = cc in
    let here : cond (test c) (Some k) (position_from test (k + 1) pool) ≡ None = rw is at none in
    elim (test c) as (λ b. cond b (Some k) (position_from test (k + 1) pool) ≡ None → b ≡ false) [ true ↦ λ e. absurd cc | false ↦ λ e. refl ] here
none_is_same test k (x ∷ pool) (suc i) c at none =
    elim (test x) as (λ b. cond b (Some k) (position_from test (k + 1) pool) ≡ None → test c ≡ false) [
      | true ↦ λ e. absurd cc
      | false ↦ λ e. none_is_same test (k + 1) pool i c at e
    ] none

pub stands_nowhere : (c : Constant) (pool : List Constant) (i : ℕ) → is_gap c ≡ false → index_of c pool ≡ None → slice_get pool i ≡ Some c → ⊥
stands_nowhere c pool i entry none at =
    let other : is_same c c ≡ false = none_is_same (λ e. is_same e c) 0 pool i c at none in
    true≢false (sym (same_as_itself c entry) ∙ other)

-- entries keep their indices
pub get-append : (pool more : List Constant) (i : ℕ) (c : Constant) → slice_get pool i ≡ Some c → slice_get (pool ++ more) i ≡ Some c
get-append [] more i c at = absurd cc
get-append (x ∷ pool) more zero c at = at
get-append (x ∷ pool) more (suc i) c at = get-append pool more i c at

-- the entry at the end
get-slots : (wide : Bool) (c : Constant) → slice_get (slots_by wide c) 0 ≡ Some c
get-slots true c = refl
get-slots false c = refl

pub get-end : (pool : List Constant) (c : Constant) → slice_get (pool ++ slots c) (length pool) ≡ Some c
get-end [] c = get-slots (is_wide c) c
get-end (x ∷ pool) c = get-end pool c

in_slots : (wide : Bool) (c d : Constant) (i : ℕ) → is_gap d ≡ false → slice_get (slots_by wide c) i ≡ Some d → (i ≡ 0) × (d ≡ c)
in_slots true c d zero entry at = (refl, cc)
in_slots true c d (suc zero) entry at =
    let is : d ≡ Gap = cc in
    let gap : is_gap Gap ≡ false = rw is at entry in
    absurd (true≢false gap)
in_slots true c d (suc (suc i)) entry at = absurd cc
in_slots false c d zero entry at = (refl, cc)
in_slots false c d (suc i) entry at = absurd cc

-- where an entry of the longer pool is
pub in_pushed : (pool : List Constant) (c d : Constant) (i : ℕ) → is_gap d ≡ false → slice_get (pool ++ slots c) i ≡ Some d → (slice_get pool i ≡ Some d) ⊎ ((i ≡ length pool) × (d ≡ c))
in_pushed [] c d i entry at = inr (in_slots (is_wide c) c d i entry at)
in_pushed (x ∷ pool) c d zero entry at = inl at
in_pushed (x ∷ pool) c d (suc i) entry at = by_cases (in_pushed pool c d i entry at)
  where
    by_cases : (slice_get pool i ≡ Some d) ⊎ ((i ≡ length pool) × (d ≡ c)) → (slice_get (x ∷ pool) (suc i) ≡ Some d) ⊎ ((suc i ≡ length (x ∷ pool)) × (d ≡ c))
    by_cases (inl before) = inl before
    by_cases (inr here) = inr (ap suc here.0, here.1)

pub different-pushed : (pool : List Constant) (c : Constant) → is_gap c ≡ false → AreDifferent pool → index_of c pool ≡ None → AreDifferent (pool ++ slots c)
different-pushed pool c no_gap different none i j d first second entry =
    by_cases (in_pushed pool c d i entry first) (in_pushed pool c d j entry second)
  where
    nowhere : (n : ℕ) → d ≡ c → slice_get pool n ≡ Some d → ⊥
    nowhere n is at = stands_nowhere c pool n no_gap none (at ∙ ap (λ (y : Constant). Some y) is)

    by_cases : (slice_get pool i ≡ Some d) ⊎ ((i ≡ length pool) × (d ≡ c)) → (slice_get pool j ≡ Some d) ⊎ ((j ≡ length pool) × (d ≡ c)) → i ≡ j
    by_cases (inl at_i) (inl at_j) = different i j d at_i at_j entry
    by_cases (inl at_i) (inr here_j) = absurd (nowhere i here_j.1 at_i)
    by_cases (inr here_i) (inl at_j) = absurd (nowhere j here_i.1 at_j)
    by_cases (inr here_i) (inr here_j) = here_i.0 ∙ sym here_j.0

-- the gaps
gapped-slots : (wide due : Bool) (c : Constant) → is_wide c ≡ wide → is_gap c ≡ due → Fits c → IsGapped due (slots_by wide c)
gapped-slots true due c wide gap fits = (gap, fits, (sym wide, tt, tt))
gapped-slots false due c wide gap fits = (gap, fits, tt)

gapped-pushed : (due : Bool) (pool : List Constant) (c : Constant) → is_gap c ≡ false → Fits c → is_gap_due due pool ≡ false → IsGapped due pool → IsGapped due (pool ++ slots c)
gapped-pushed due [] c entry fits complete gapped = gapped-slots (is_wide c) due c refl (entry ∙ sym complete) fits
gapped-pushed due (x ∷ pool) c entry fits complete gapped = (gapped.0, gapped.1, gapped-pushed (is_wide x) pool c entry fits complete gapped.2)

due-slots : (wide due : Bool) (c : Constant) → is_wide c ≡ wide → is_gap_due due (slots_by wide c) ≡ false
due-slots true due c wide = refl
due-slots false due c wide = wide

due-pushed : (due : Bool) (pool : List Constant) (c : Constant) → is_gap_due due (pool ++ slots c) ≡ false
due-pushed due [] c = due-slots (is_wide c) due c refl
due-pushed due (x ∷ pool) c = due-pushed (is_wide x) pool c

some_length : (pool more : List Constant) → 0 < length pool → 0 < length (pool ++ more)
some_length (x ∷ pool) more above = omega arith
some_length [] more above = absurd (omega arith)

-- a pool with another entry
pub made-pushed : (pool : List Constant) (c : Constant) → is_gap c ≡ false → Fits c → length (pool ++ slots c) < 2 ^ 16 → index_of c pool ≡ None → IsMade pool → IsMade (pool ++ slots c)
made-pushed pool c entry fits count none made = record {
  sound = record {
    above = some_length pool (slots c) made.sound.above;
    count = count;
    gaps = gapped-pushed true pool c entry fits made.complete made.sound.gaps;
  };
  complete = due-pushed true pool c;
  different = different-pushed pool c entry made.different none;
}

-- for which there is room
all_gapped : (due : Bool) (pool : List Constant) → IsGapped due pool → AllByRecursion Fits pool
all_gapped due [] gapped = tt
all_gapped due (x ∷ pool) gapped = (gapped.1, all_gapped (is_wide x) pool gapped.2)

pub made_has_room : (pool : List Constant) → IsMade pool → HasRoom pool
made_has_room pool made = (made.sound.count, all_gapped true pool made.sound.gaps)

all_first : (pool more : List Constant) → AllByRecursion Fits (pool ++ more) → AllByRecursion Fits pool
all_first [] more all = tt
all_first (x ∷ pool) more all = (all.0, all_first pool more all.1)

pub room_before : (pool more : List Constant) → HasRoom (pool ++ more) → HasRoom pool
room_before pool more room = (omega (arith, room.0, length_before pool more), all_first pool more room.1)
  where
    length_before : (pool more : List Constant) → length pool ≤ length (pool ++ more)
    length_before [] more = omega arith
    length_before (x ∷ pool) more = omega (arith, length_before pool more)

fits_slots : (wide : Bool) (c : Constant) → AllByRecursion Fits (slots_by wide c) → Fits c
fits_slots true c all = all.0
fits_slots false c all = all.0

pub fits_at_end : (pool : List Constant) (c : Constant) → AllByRecursion Fits (pool ++ slots c) → Fits c
fits_at_end [] c all = fits_slots (is_wide c) c all
fits_at_end (x ∷ pool) c all = fits_at_end pool c all.1

-- the pool without an entry
pub first_made : IsMade (Gap ∷ [])
first_made = record {
  sound = record { above = omega arith; count = omega arith; gaps = (refl, tt, tt) };
  complete = refl;
  different = none_at_all;
}
  where
    none_at_all : AreDifferent (Gap ∷ [])
    none_at_all zero zero c first second entry = refl
    none_at_all zero (suc j) c first second entry = absurd cc
    none_at_all (suc i) j c first second entry = absurd cc
