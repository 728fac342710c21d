-- Levels along a run.
use Rattle.std.proofs.Common.{◌≡◌, ◌≢◌, ◌⊎◌, ℕ, zero, suc, ◌+◌, ◌-◌, ◌<◌, ◌≤◌, Bool, true, false, Option, None, Some, List, [], ◌∷◌, length, take, drop, refl, sym, ◌∙◌, ap, subst, inl, inr, arith}
use Rattle.std.specs.Prelude.{slice_get}
use Rattle.std.proofs.lemmas.Option.{same_Some}
use Rattle.op_core.proofs.PointwiseLemmas.{same_or_other}
use Rattle.core_runs.specs.Cores.{outermost}
use Rattle.core_runs.specs.Revoked.{levels_from}
use Rattle.section_laws.specs.LevelRun.{LevelAct, calm, opens_one, closes_all_but, is_revoked, is_undone, LevelAt, IsLevelRun, In, IsDoomedAt, GoesBackAt, DoomedAreUndone, UndoneWereDoomed, UndoingsAreNested, PinnedAt, IsLevel, DoomedAreUnpinned}

-- ---- lists of places, the newest first

-- they fall, and the first is below k
abbrev pub Falls : ℕ → List ℕ → Type 0
Falls k [] = Unit {0}
Falls k (p ∷ levels) = (p < k) × Falls p levels

falls_more : (k m : ℕ) (levels : List ℕ) → k ≤ m → Falls k levels → Falls m levels
falls_more k m [] low falls = tt
falls_more k m (p ∷ levels) low falls = (omega (arith, low, falls.0), falls.1)

falls_drop : (j k : ℕ) (levels : List ℕ) → Falls k levels → Falls k (drop j levels)
falls_drop zero k levels falls = falls
falls_drop (suc j) k [] falls = tt
falls_drop (suc j) k (p ∷ levels) falls = falls_more p k (drop j levels) (low p k falls.0) (falls_drop j p levels falls.1)
  where
    low : (p k : ℕ) → p < k → p ≤ k
    low p k is = omega (arith, is)

pub below : (k p : ℕ) (levels : List ℕ) → Falls k levels → In p levels → p < k
below k p [] falls is = absurd is
below k p (q ∷ levels) falls is = elim is [
  | inl here ↦ first p q k here falls.0
  | inr more ↦ lower p q k (below q p levels falls.1 more) falls.0
]
  where
    first : (p q k : ℕ) → p ≡ q → q < k → p < k
    first p q k is low = omega (arith, is, low)

    lower : (p q k : ℕ) → p < q → q < k → p < k
    lower p q k is low = omega (arith, is, low)

in_drop : (j p : ℕ) (levels : List ℕ) → In p (drop j levels) → In p levels
in_drop zero p levels is = is
in_drop (suc j) p [] is = absurd is
in_drop (suc j) p (q ∷ levels) is = inr (in_drop j p levels is)

-- it is among the first j, or after them
in_parts : (j p : ℕ) (levels : List ℕ) → In p levels → In p (take j levels) ⊎ In p (drop j levels)
in_parts zero p levels is = inr is
in_parts (suc j) p [] is = absurd is
in_parts (suc j) p (q ∷ levels) is = elim is [
  | inl here ↦ inl (inl here)
  | inr more ↦ elim (in_parts j p levels more) [ inl first ↦ inl (inr first) | inr behind ↦ inr behind ]
]

in_take : (j p : ℕ) (levels : List ℕ) → In p (take j levels) → In p levels
in_take zero p levels is = absurd is
in_take (suc j) p [] is = absurd is
in_take (suc j) p (q ∷ levels) is = elim is [ inl here ↦ inl here | inr more ↦ inr (in_take j p levels more) ]

-- not both, since they fall
not_both : (j k p : ℕ) (levels : List ℕ) → Falls k levels → In p (take j levels) → In p (drop j levels) → ⊥
not_both zero k p levels falls first behind = first
not_both (suc j) k p [] falls first behind = first
not_both (suc j) k p (q ∷ levels) falls first behind = elim first [
  | inl here ↦ no p q here (below q p (drop j levels) (falls_drop j q levels falls.1) behind)
  | inr more ↦ not_both j q p levels falls.1 more behind
]
  where
    no : (p q : ℕ) → p ≡ q → p < q → ⊥
    no p q is low = omega (arith, is, low)

-- number j of the list is the last of the first j + 1, and newer than what follows
nth_in : (j p : ℕ) (levels : List ℕ) → slice_get levels j ≡ Some p → In p (take (suc j) levels)
nth_in j p [] is = cc
nth_in zero p (q ∷ levels) is = inl (sym (same_Some q p is))
nth_in (suc j) p (q ∷ levels) is = inr (nth_in j p levels is)

nth_above : (j k p q : ℕ) (levels : List ℕ) → Falls k levels → slice_get levels j ≡ Some q → In p (drop (suc j) levels) → p < q
nth_above j k p q [] falls is behind = absurd behind
nth_above zero k p q (x ∷ levels) falls is behind = subst (λ n. p < n) (same_Some x q is) (below x p levels falls.1 behind)
nth_above (suc j) k p q (x ∷ levels) falls is behind = nth_above j x p q levels falls.1 is behind

-- and not older than any of the first j + 1
nth_least : (j k p q : ℕ) (levels : List ℕ) → Falls k levels → slice_get levels j ≡ Some q → In p (take (suc j) levels) → q ≤ p
nth_least j k p q [] falls is first = absurd first
nth_least zero k p q (x ∷ levels) falls is first = elim first [ inl here ↦ same p q x here (same_Some x q is) | inr more ↦ absurd more ]
  where
    same : (p q x : ℕ) → p ≡ x → x ≡ q → q ≤ p
    same p q x is eq = omega (arith, is, eq)
nth_least (suc j) k p q (x ∷ levels) falls is first = elim first [
  | inl here ↦ low p q x here (below x q levels falls.1 (in_take (suc j) q levels (nth_in j q levels is)))
  | inr more ↦ nth_least j x p q levels falls.1 is more
]
  where
    low : (p q x : ℕ) → p ≡ x → q < x → q ≤ p
    low p q x is lower = omega (arith, is, lower)

pub has_nth : (j : ℕ) (levels : List ℕ) → j < length levels → (p : ℕ) × (slice_get levels j ≡ Some p)
has_nth j [] low = absurd (no j low)
  where
    no : (j : ℕ) → j < 0 → ⊥
    no j low = omega (arith, low)
has_nth zero (x ∷ levels) low = (x, refl)
has_nth (suc j) (x ∷ levels) low = has_nth j levels (less j (length levels) low)
  where
    less : (j n : ℕ) → suc j < suc n → j < n
    less j n low = omega (arith, low)

-- ---- runs

data Order (k m : ℕ) : Type 0 where
  comes_before : suc k ≤ m → Order k m
  is_there : k ≡ m → Order k m
  comes_behind : suc m ≤ k → Order k m

order : (k m : ℕ) → Order k m
order zero zero = is_there refl
order zero (suc m) = comes_before (omega arith)
order (suc k) zero = comes_behind (omega arith)
order (suc k) (suc m) = elim (order k m) [ comes_before low ↦ comes_before (omega (arith, low)) | is_there eq ↦ is_there (ap suc eq) | comes_behind low ↦ comes_behind (omega (arith, low)) ]

module _ (levels : ℕ → List ℕ) (revoked : ℕ → Option ℕ) (act : ℕ → LevelAct) (is_run : IsLevelRun levels revoked act) where
  pub falls : (k : ℕ) → Falls k (levels k)
  falls zero = subst (λ l. Falls 0 l) (sym is_run.0) tt
  falls (suc k) = by_act (act k) (is_run.2 k) (falls k)
    where
      same : (k : ℕ) → k ≤ suc k
      same k = omega arith

      one : (k : ℕ) → k < suc k
      one k = omega arith

      by_act : (a : LevelAct) → LevelAt levels revoked k a → Falls k (levels k) → Falls (suc k) (levels (suc k))
      by_act calm at was = subst (λ l. Falls (suc k) l) (sym at.0) (falls_more k (suc k) (levels k) (same k) was)
      by_act opens_one at was = subst (λ l. Falls (suc k) l) (sym at.0) (one k, was)
      by_act (closes_all_but n) at was = subst (λ l. Falls (suc k) l) (sym at.0)
          (falls_more k (suc k) (outermost n (levels k)) (same k) (falls_drop (length (levels k) - n) k (levels k) was))
      by_act (is_revoked n) at was = subst (λ l. Falls (suc k) l) (sym at.0) (falls_more k (suc k) (levels k) (same k) was)
      by_act (is_undone n) at was = subst (λ l. Falls (suc k) l) (sym at.0)
          (falls_more k (suc k) (outermost (n - 1) (levels k)) (same k) (falls_drop (length (levels k) - (n - 1)) k (levels k) was))

  -- what is open was open before, since its place
  was_open : (p k : ℕ) → p < k → In p (levels (suc k)) → In p (levels k)
  was_open p k low is = by_act (act k) (is_run.2 k)
    where
      not_now : (p k : ℕ) → p < k → p ≡ k → ⊥
      not_now p k low is = omega (arith, low, is)

      by_act : (a : LevelAct) → LevelAt levels revoked k a → In p (levels k)
      by_act calm at = subst (λ l. In p l) at.0 is
      by_act opens_one at = elim (subst (λ l. In p l) at.0 is) [ inl here ↦ absurd (not_now p k low here) | inr more ↦ more ]
      by_act (closes_all_but n) at = in_drop (length (levels k) - n) p (levels k) (subst (λ l. In p l) at.0 is)
      by_act (is_revoked n) at = subst (λ l. In p l) at.0 is
      by_act (is_undone n) at = in_drop (length (levels k) - (n - 1)) p (levels k) (subst (λ l. In p l) at.0 is)

  open_by : (d p k i : ℕ) → k ≡ d + i → p < i → In p (levels k) → In p (levels i)
  open_by zero p k i is low at = subst (λ m. In p (levels m)) (same k i is) at
    where
      same : (k i : ℕ) → k ≡ 0 + i → k ≡ i
      same k i is = omega (arith, is)
  open_by (suc d) p k i is low at = open_by d p (d + i) i refl low (was_open p (d + i) (above d p i low) (subst (λ m. In p (levels m)) (next d k i is) at))
    where
      next : (d k i : ℕ) → k ≡ suc d + i → k ≡ suc (d + i)
      next d k i is = omega (arith, is)

      above : (d p i : ℕ) → p < i → p < d + i
      above d p i low = omega (arith, low)

  pub open_since : (p k i : ℕ) → p < i → i ≤ k → In p (levels k) → In p (levels i)
  open_since p k i low upto at = open_by (k - i) p k i (sum i k upto) low at
    where
      sum : (i k : ℕ) → i ≤ k → k ≡ (k - i) + i
      sum i k upto = omega (arith, upto)

  -- a section that is being undone was revoked, and its levels stay since
  pub record RevokedBefore (k n : ℕ) : Type 0 where
    pub place : ℕ
    pub earlier : place < k
    pub act_is : act place ≡ is_revoked n
    pub stays : levels k ≡ levels place
    pub level : (0 < n) × (n ≤ length (levels place))

  pub revoked_before : (k n : ℕ) → revoked k ≡ Some n → RevokedBefore k n
  revoked_before zero n is = cc_none (sym is_run.1 ∙ is)
    where
      cc_none : None ≡ Some n → RevokedBefore 0 n
      cc_none is = cc
  revoked_before (suc k) n is = by_act (act k) refl (is_run.2 k) (revoked_before k)
    where
      no : {A : Type 0} → revoked (suc k) ≡ None → A
      no none = absurd (not (sym none ∙ is))
        where
          not : None ≡ Some n → ⊥
          not is = cc

      one : (k : ℕ) → k < suc k
      one k = omega arith

      more : (p k : ℕ) → p < k → p < suc k
      more p k low = omega (arith, low)

      by_act : (a : LevelAct) → act k ≡ a → LevelAt levels revoked k a → ((n : ℕ) → revoked k ≡ Some n → RevokedBefore k n) → RevokedBefore (suc k) n
      by_act calm act_is at before = let was = before n (sym at.1 ∙ is) in
          record { place = was.place; earlier = more was.place k was.earlier; act_is = was.act_is; stays = at.0 ∙ was.stays; level = was.level }
      by_act opens_one act_is at before = no at.2
      by_act (closes_all_but m) act_is at before = no at.2
      by_act (is_revoked m) act_is at before = let same = same_Some m n (sym at.2 ∙ is) in
          record { place = k; earlier = one k; act_is = act_is ∙ ap is_revoked same; stays = at.0; level = (subst (λ x. 0 < x) same at.3, subst (λ x. x ≤ length (levels k)) same at.4) }
      by_act (is_undone m) act_is at before = no at.2

  -- the section is undone to level n by act number j
  at_undone : (j n : ℕ) → act j ≡ is_undone n → LevelAt levels revoked j (is_undone n)
  at_undone j n is = subst (λ a. LevelAt levels revoked j a) is (is_run.2 j)

  -- ---- the laws

  count : (len n : ℕ) → 0 < n → n ≤ len → suc (len - n) ≡ suc len - n
  count len n some low = omega (arith, some, low)

  count_behind : (len n : ℕ) → 0 < n → n ≤ len → suc (len - n) ≡ len - (n - 1)
  count_behind len n some low = omega (arith, some, low)

  pub undone_were_doomed : (j n p : ℕ) → GoesBackAt levels act j n p → IsDoomedAt levels act p × ((i : ℕ) → p < i → i ≤ j → In p (levels i))
  undone_were_doomed j n p back =
      let before = revoked_before j n (at_undone j n back.undoes).1 in
      let len = length (levels j) in
      let low : n ≤ len = subst (λ l. n ≤ length l) (sym before.stays) before.level.1 in
      let first : In p (take (suc (len - n)) (levels j)) = nth_in (len - n) p (levels j) back.opened in
      let from : In p (levels_from n (levels j)) = subst (λ m. In p (take m (levels j))) (count len n before.level.0 low) first in (
        (before.place, n, before.act_is, subst (λ l. In p (levels_from n l)) before.stays from),
        (λ i above upto. open_since p j i above upto (in_take (suc (len - n)) p (levels j) first)),
      )

  pub undoings_are_nested : (j n p i m q : ℕ) → GoesBackAt levels act j n p → GoesBackAt levels act i m q → p ≤ i → i < j → p ≤ q
  undoings_are_nested j n p i m q back earlier upto low =
      let before = revoked_before i m (at_undone i m earlier.undoes).1 in
      let at = at_undone i m earlier.undoes in
      let len = length (levels i) in
      let small : m ≤ len = subst (λ l. m ≤ length l) (sym before.stays) before.level.1 in
      let behind : In p (outermost (m - 1) (levels i)) = subst (λ l. In p l) at.0 ((undone_were_doomed j n p back).1 (suc i) (next p i upto) (next_upto i j low)) in
      less p q (nth_above (len - m) i p q (levels i) (falls i) earlier.opened
      (subst (λ k. In p (drop k (levels i))) (sym (count_behind len m before.level.0 small)) behind))
    where
      next : (p i : ℕ) → p ≤ i → p < suc i
      next p i upto = omega (arith, upto)

      next_upto : (i j : ℕ) → i < j → suc i ≤ j
      next_upto i j low = omega (arith, low)

      less : (p q : ℕ) → p < q → p ≤ q
      less p q is = omega (arith, is)

  module _ (p : ℕ) (doomed : IsDoomedAt levels act p) where
    pub at : LevelAt levels revoked doomed.0 (is_revoked doomed.1)
    at = subst (λ a. LevelAt levels revoked doomed.0 a) doomed.2 (is_run.2 doomed.0)

    pub was : In p (levels doomed.0)
    was = in_take (suc (length (levels doomed.0)) - doomed.1) p (levels doomed.0) doomed.3

    pub low : p < doomed.0
    low = below doomed.0 p (levels doomed.0) (falls doomed.0) was

    -- after the revocation the section is being undone with the same levels, or was undone and the level is gone
    pub data Since (k : ℕ) : Type 0 where
      keeps_on : revoked k ≡ Some doomed.1 → levels k ≡ levels doomed.0 → Since k
      is_gone : (In p (levels k) → ⊥) → Since k

    gone_on : (k : ℕ) → p < k → (In p (levels k) → ⊥) → In p (levels (suc k)) → ⊥
    gone_on k above none is = none (was_open p k above is)

    pub since : (d k : ℕ) → k ≡ d + suc doomed.0 → Since k
    since zero k is = subst (λ n. Since n) (sym (same k doomed.0 is)) (keeps_on at.2 at.0)
      where
        same : (k m : ℕ) → k ≡ 0 + suc m → k ≡ suc m
        same k m is = omega (arith, is)
    since (suc d) k is = subst (λ n. Since n) (sym (next d k doomed.0 is)) (by_act (act (d + suc doomed.0)) (is_run.2 (d + suc doomed.0)) (since d (d + suc doomed.0) refl))
      where
        next : (d k m : ℕ) → k ≡ suc d + suc m → k ≡ suc (d + suc m)
        next d k m is = omega (arith, is)

        above : (d p m : ℕ) → p < m → p < d + suc m
        above d p m low = omega (arith, low)

        no : {A : Type 0} → (j : ℕ) → revoked j ≡ None → revoked j ≡ Some doomed.1 → A
        no j none some = absurd (not (sym none ∙ some))
          where
            not : None ≡ Some doomed.1 → ⊥
            not is = cc

        last : (j n : ℕ) → n ≡ doomed.1 → levels j ≡ levels doomed.0 → In p (outermost (n - 1) (levels j)) → ⊥
        last j n same stays behind =
            let len = length (levels doomed.0) in
            not_both (suc len - doomed.1) doomed.0 p (levels doomed.0) (falls doomed.0) doomed.3
            (subst (λ l. In p (drop (suc len - doomed.1) l)) stays
            (subst (λ c. In p (drop c (levels j))) (counts (length (levels j)) n len doomed.1 same (ap length stays) at.3 at.4) behind))
          where
            counts : (l n len m : ℕ) → n ≡ m → l ≡ len → 0 < m → m ≤ len → l - (n - 1) ≡ suc len - m
            counts l n len m is eq some upto = omega (arith, is, eq, some, upto)

        by_act : (a : LevelAct) → LevelAt levels revoked (d + suc doomed.0) a → Since (d + suc doomed.0) → Since (suc (d + suc doomed.0))
        by_act calm step (keeps_on some stays) = keeps_on (step.1 ∙ some) (step.0 ∙ stays)
        by_act opens_one step (keeps_on some stays) = no (d + suc doomed.0) step.1 some
        by_act (closes_all_but n) step (keeps_on some stays) = no (d + suc doomed.0) step.1 some
        by_act (is_revoked n) step (keeps_on some stays) = no (d + suc doomed.0) step.1 some
        by_act (is_undone n) step (keeps_on some stays) =
            is_gone (λ is. last (d + suc doomed.0) n (same_Some n doomed.1 (sym step.1 ∙ some)) stays (subst (λ l. In p l) step.0 is))
        by_act a step (is_gone none) = is_gone (gone_on (d + suc doomed.0) (above d p doomed.0 low) none)

    -- where the level isn't open after act number k, the act has undone the section to it or further out
    pub closes_by_undoing : (k : ℕ) → In p (levels k) → (In p (levels (suc k)) → ⊥) → (n q : ℕ) × GoesBackAt levels act k n q × (q ≤ p)
    closes_by_undoing k is none = by_place (order k doomed.0)
      where
        here : p < suc k
        here = next p k (below k p (levels k) (falls k) is)
          where
            next : (p k : ℕ) → p < k → p < suc k
            next p k low = omega (arith, low)

        undoes : (n : ℕ) → revoked k ≡ Some n → act k ≡ is_undone n → levels (suc k) ≡ outermost (n - 1) (levels k) → (n q : ℕ) × GoesBackAt levels act k n q × (q ≤ p)
        undoes n some act_is leads =
            let rev = revoked_before k n some in
            let upto : n ≤ length (levels k) = subst (λ l. n ≤ length l) (sym rev.stays) rev.level.1 in
            let found = has_nth (length (levels k) - n) (levels k) (small (length (levels k)) n rev.level.0 upto) in
            let parts = in_parts (length (levels k) - (n - 1)) p (levels k) is in (
              n,
              found.0,
              record { undoes = act_is; opened = found.1 },
              elim parts [
                | inl first ↦ nth_least (length (levels k) - n) k p found.0 (levels k) (falls k) found.1
                    (subst (λ c. In p (take c (levels k))) (sym (count_behind (length (levels k)) n rev.level.0 upto)) first)
                | inr rest ↦ absurd (none (subst (λ l. In p l) (sym leads) rest))
              ],
            )
          where
            small : (len n : ℕ) → 0 < n → n ≤ len → len - n < len
            small len n some upto = omega (arith, some, upto)

        by_since : Since k → (n q : ℕ) × GoesBackAt levels act k n q × (q ≤ p)
        by_since (is_gone none_now) = absurd (none_now is)
        by_since (keeps_on some stays) = by_act (act k) refl (is_run.2 k)
          where
            no : {A : Type 0} → revoked k ≡ None → A
            no eq = absurd (not (sym eq ∙ some))
              where
                not : None ≡ Some doomed.1 → ⊥
                not is = cc

            by_act : (a : LevelAct) → act k ≡ a → LevelAt levels revoked k a → (n q : ℕ) × GoesBackAt levels act k n q × (q ≤ p)
            by_act calm act_is step = absurd (none (subst (λ l. In p l) (sym step.0) is))
            by_act opens_one act_is step = no step.1
            by_act (closes_all_but n) act_is step = no step.1
            by_act (is_revoked n) act_is step = no step.1
            by_act (is_undone n) act_is step = undoes n step.1 act_is step.0

        by_place : Order k doomed.0 → (n q : ℕ) × GoesBackAt levels act k n q × (q ≤ p)
        by_place (comes_before upto) = absurd (none (open_since p doomed.0 (suc k) here upto was))
        by_place (is_there eq) = absurd (none (subst (λ l. In p l) (sym (subst (λ j. levels (suc j) ≡ levels j) (sym eq) at.0)) is))
        by_place (comes_behind upto) = by_since (since (k - suc doomed.0) k (sum k doomed.0 upto))
          where
            sum : (k m : ℕ) → suc m ≤ k → k ≡ (k - suc m) + suc m
            sum k m upto = omega (arith, upto)

pub doomed_are_undone : DoomedAreUndone
doomed_are_undone levels revoked act is_run p k j doomed is upto = go (j - k) j (sum k j upto)
  where
    sum : (k j : ℕ) → k ≤ j → j ≡ (j - k) + k
    sum k j upto = omega (arith, upto)

    go : (d j : ℕ) → j ≡ d + k → In p (levels j) ⊎ ((i n q : ℕ) × (k ≤ i) × (i < j) × GoesBackAt levels act i n q × (q ≤ p))
    go zero j eq = inl (subst (λ m. In p (levels m)) (sym (same j k eq)) is)
      where
        same : (j k : ℕ) → j ≡ 0 + k → j ≡ k
        same j k eq = omega (arith, eq)
    go (suc d) j eq = elim (go d (d + k) refl) [
      | inl still ↦ elim (decide p (levels j)) [
        | inl now ↦ inl now
        | inr none ↦
            let back = closes_by_undoing levels revoked act is_run p doomed (d + k) still (λ at. none (subst (λ m. In p (levels m)) (sym (next d j k eq)) at)) in
            inr (d + k, back.0, back.1, from d k, upto_j d j k eq, back.2, back.3)
      ]
      | inr was ↦ inr (was.0, was.1, was.2, was.3, later d j k was.0 eq was.4, was.5, was.6)
    ]
      where
        next : (d j k : ℕ) → j ≡ suc d + k → j ≡ suc (d + k)
        next d j k eq = omega (arith, eq)

        from : (d k : ℕ) → k ≤ d + k
        from d k = omega arith

        upto_j : (d j k : ℕ) → j ≡ suc d + k → d + k < j
        upto_j d j k eq = omega (arith, eq)

        later : (d j k i : ℕ) → j ≡ suc d + k → i < d + k → i < j
        later d j k i eq low = omega (arith, eq, low)

        decide : (p : ℕ) (levels : List ℕ) → In p levels ⊎ (In p levels → ⊥)
        decide p [] = inr (λ is. is)
        decide p (q ∷ rest) = elim (same_or_other p q) [
          | inl here ↦ inl (inl here)
          | inr other ↦ elim (decide p rest) [ inl more ↦ inl (inr more) | inr none ↦ inr (λ is. elim is [ inl here ↦ other here | inr more ↦ none more ]) ]
        ]

pub were_doomed : UndoneWereDoomed
were_doomed levels revoked act is_run = undone_were_doomed levels revoked act is_run

pub are_nested : UndoingsAreNested
are_nested levels revoked act is_run = undoings_are_nested levels revoked act is_run

-- ---- a doomed level isn't pinned

is_open_level : (p d : ℕ) (levels : List ℕ) → IsLevel p d levels → In p levels
is_open_level p d [] is = absurd is
is_open_level p d (q ∷ levels) is = elim is [ inl here ↦ inl here.0 | inr more ↦ inr (is_open_level p d levels more) ]

has_level : (p : ℕ) (levels : List ℕ) → In p levels → (d : ℕ) × IsLevel p d levels
has_level p [] is = absurd is
has_level p (q ∷ levels) is = elim is [
  | inl here ↦ (suc (length levels), inl (here, refl))
  | inr more ↦ let found = has_level p levels more in (found.0, inr found.1)
]

level_drop : (j p d : ℕ) (levels : List ℕ) → IsLevel p d (drop j levels) → IsLevel p d levels
level_drop zero p d levels is = is
level_drop (suc j) p d [] is = absurd is
level_drop (suc j) p d (q ∷ levels) is = inr (level_drop j p d levels is)

-- it has one number
one_level : (k p d e : ℕ) (levels : List ℕ) → Falls k levels → IsLevel p d levels → IsLevel p e levels → d ≡ e
one_level k p d e [] falls is also = absurd is
one_level k p d e (q ∷ levels) falls is also = elim is [
  | inl here ↦ elim also [ inl there ↦ here.1 ∙ sym there.1 | inr more ↦ absurd (no p q here.0 (below q p levels falls.1 (is_open_level p e levels more))) ]
  | inr more ↦ elim also [ inl there ↦ absurd (no p q there.0 (below q p levels falls.1 (is_open_level p d levels more))) | inr too ↦ one_level q p d e levels falls.1 more too ]
]
  where
    no : (p q : ℕ) → p ≡ q → p < q → ⊥
    no p q is low = omega (arith, is, low)

-- among the first j it is no further out than this
level_first : (j k p d : ℕ) (levels : List ℕ) → Falls k levels → In p (take j levels) → IsLevel p d levels → length levels < d + j
level_first zero k p d levels falls first is = absurd first
level_first (suc j) k p d [] falls first is = absurd is
level_first (suc j) k p d (q ∷ levels) falls first is = elim is [
  | inl here ↦ high d (length levels) j here.1
  | inr more ↦ elim first [
    | inl same ↦ absurd (no p q same (below q p levels falls.1 (is_open_level p d levels more)))
    | inr too ↦ next d (length levels) j (level_first j q p d levels falls.1 too more)
  ]
]
  where
    no : (p q : ℕ) → p ≡ q → p < q → ⊥
    no p q is low = omega (arith, is, low)

    high : (d l j : ℕ) → d ≡ suc l → suc l < d + suc j
    high d l j is = omega (arith, is)

    next : (d l j : ℕ) → l < d + j → suc l < d + suc j
    next d l j low = omega (arith, low)

module _ (levels : ℕ → List ℕ) (revoked : ℕ → Option ℕ) (act : ℕ → LevelAct) (pinned : ℕ → ℕ) (is_run : IsLevelRun levels revoked act)
    (pins : (k : ℕ) → PinnedAt levels revoked act pinned k) (p : ℕ) (doomed : IsDoomedAt levels act p) where
  was_level : (k d : ℕ) → p < k → IsLevel p d (levels (suc k)) → IsLevel p d (levels k)
  was_level k d low is = by_act (act k) (is_run.2 k)
    where
      not_now : (p k : ℕ) → p < k → p ≡ k → ⊥
      not_now p k low is = omega (arith, low, is)

      by_act : (a : LevelAct) → LevelAt levels revoked k a → IsLevel p d (levels k)
      by_act calm step = subst (λ l. IsLevel p d l) step.0 is
      by_act opens_one step = elim (subst (λ l. IsLevel p d l) step.0 is) [ inl here ↦ absurd (not_now p k low here.0) | inr more ↦ more ]
      by_act (closes_all_but n) step = level_drop (length (levels k) - n) p d (levels k) (subst (λ l. IsLevel p d l) step.0 is)
      by_act (is_revoked n) step = subst (λ l. IsLevel p d l) step.0 is
      by_act (is_undone n) step = level_drop (length (levels k) - (n - 1)) p d (levels k) (subst (λ l. IsLevel p d l) step.0 is)

  -- from where it is open on up to the revocation the pinned depth doesn't fall
  rises_to : (j k d : ℕ) → doomed.0 ≡ j + k → p < k → IsLevel p d (levels doomed.0) → IsLevel p d (levels k) × (pinned k ≤ pinned doomed.0)
  rises_to zero k d is low at_m = (subst (λ n. IsLevel p d (levels n)) (same doomed.0 k is) at_m, eq_le (pinned k) (pinned doomed.0) (ap pinned (sym (same doomed.0 k is))))
    where
      same : (m k : ℕ) → m ≡ 0 + k → m ≡ k
      same m k is = omega (arith, is)

      eq_le : (a c : ℕ) → a ≡ c → a ≤ c
      eq_le a c is = omega (arith, is)
  rises_to (suc j) k d is low at_m =
      let later = rises_to j (suc k) d (next doomed.0 j k is) (more p k low) at_m in
      let here = was_level k d low later.0 in (
        here,
        elim (pins k).rises [
          | inl none ↦ absurd (subst (λ l. IsLevel p d l) none here)
          | inr up ↦ chain (pinned k) (pinned (suc k)) (pinned doomed.0) up later.1
        ],
      )
    where
      next : (m j k : ℕ) → m ≡ suc j + k → m ≡ j + suc k
      next m j k is = omega (arith, is)

      more : (p k : ℕ) → p < k → p < suc k
      more p k low = omega (arith, low)

      chain : (a c e : ℕ) → a ≤ c → c ≤ e → a ≤ e
      chain a c e low high = omega (arith, low, high)

  -- and after it, while the level is open, it stays
  stays_from : (j k : ℕ) → k ≡ j + suc doomed.0 → In p (levels k) → pinned k ≡ pinned doomed.0
  stays_from zero k is open_now = ap pinned (same k doomed.0 is) ∙ ((pins doomed.0).above doomed.1 doomed.2).1
    where
      same : (k m : ℕ) → k ≡ 0 + suc m → k ≡ suc m
      same k m is = omega (arith, is)
  stays_from (suc j) k is open_now =
      let prev = j + suc doomed.0 in
      let before = was_open levels revoked act is_run p prev (above j p doomed.0 (low levels revoked act is_run p doomed)) (subst (λ n. In p (levels n)) (next k j doomed.0 is) open_now) in
      ap pinned (next k j doomed.0 is) ∙ by_since prev (since levels revoked act is_run p doomed j prev refl) before ∙ stays_from j prev refl before
    where
      next : (k j m : ℕ) → k ≡ suc j + suc m → k ≡ suc (j + suc m)
      next k j m is = omega (arith, is)

      above : (j p m : ℕ) → p < m → p < j + suc m
      above j p m low = omega (arith, low)

      by_since : (i : ℕ) → Since levels revoked act is_run p doomed i → In p (levels i) → pinned (suc i) ≡ pinned i
      by_since i (keeps_on some stays) is = (pins i).stays doomed.1 some
      by_since i (is_gone none) is = absurd (none is)

  -- the level to which its section is revoked is no further inside
  no_deeper : (d : ℕ) → IsLevel p d (levels doomed.0) → doomed.1 ≤ d
  no_deeper d is =
      let step = at levels revoked act is_run p doomed in
      counts (length (levels doomed.0)) doomed.1 d step.3 step.4
      (level_first (suc (length (levels doomed.0)) - doomed.1) doomed.0 p d (levels doomed.0) (falls levels revoked act is_run doomed.0) doomed.3 is)
    where
      counts : (l n d : ℕ) → 0 < n → n ≤ l → l < d + (suc l - n) → n ≤ d
      counts l n d some upto high = omega (arith, some, upto, high)

  unpinned : (k d : ℕ) → IsLevel p d (levels k) → pinned k < d
  unpinned k d is = by_place (order k doomed.0)
    where
      found : (e : ℕ) × IsLevel p e (levels doomed.0)
      found = has_level p (levels doomed.0) (was levels revoked act is_run p doomed)

      less : (a m n d : ℕ) → a ≤ m → m < n → n ≤ d → a < d
      less a m n d up low deep = omega (arith, up, low, deep)

      low_m : pinned doomed.0 < doomed.1
      low_m = ((pins doomed.0).above doomed.1 doomed.2).0

      is_before : (j : ℕ) → doomed.0 ≡ j + k → pinned k < d
      is_before j eq =
          let early = rises_to j k found.0 eq (below k p (levels k) (falls levels revoked act is_run k) (is_open_level p d (levels k) is)) found.1 in
          subst (λ n. pinned k < n) (one_level k p found.0 d (levels k) (falls levels revoked act is_run k) early.0 is)
          (less (pinned k) (pinned doomed.0) doomed.1 found.0 early.1 low_m (no_deeper found.0 found.1))

      is_behind : (j : ℕ) → k ≡ j + suc doomed.0 → pinned k < d
      is_behind j eq = by_since (since levels revoked act is_run p doomed j k eq)
        where
          same_le : (a c : ℕ) → a ≡ c → a ≤ c
          same_le a c is = omega (arith, is)

          by_since : Since levels revoked act is_run p doomed k → pinned k < d
          by_since (is_gone none) = absurd (none (is_open_level p d (levels k) is))
          by_since (keeps_on some stays) =
              less (pinned k) (pinned doomed.0) doomed.1 d (same_le (pinned k) (pinned doomed.0) (stays_from j k eq (is_open_level p d (levels k) is))) low_m
              (no_deeper d (subst (λ l. IsLevel p d l) stays is))

      by_place : Order k doomed.0 → pinned k < d
      by_place (comes_before upto) = is_before (doomed.0 - k) (sum k doomed.0 upto)
        where
          sum : (k m : ℕ) → suc k ≤ m → m ≡ (m - k) + k
          sum k m upto = omega (arith, upto)
      by_place (is_there eq) = is_before 0 (sym eq ∙ zero_sum k)
        where
          zero_sum : (k : ℕ) → k ≡ 0 + k
          zero_sum k = omega arith
      by_place (comes_behind upto) = is_behind (k - suc doomed.0) (sum k doomed.0 upto)
        where
          sum : (k m : ℕ) → suc m ≤ k → k ≡ (k - suc m) + suc m
          sum k m upto = omega (arith, upto)

pub doomed_are_unpinned : DoomedAreUnpinned
doomed_are_unpinned levels revoked act pinned is_run pins p d k doomed is = unpinned levels revoked act pinned is_run pins p doomed k d is
