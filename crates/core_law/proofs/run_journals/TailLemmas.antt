-- The levels that were open as a level opened are those outside of it.
use Rattle.std.proofs.Common.{◌≡◌, inl, inr, ℕ, zero, suc, ◌+◌, ◌-◌, ◌<◌, ◌≤◌, Bool, Some, List, [], ◌∷◌, length, drop, refl, sym, ◌∙◌, ap, subst, arith}
use Rattle.std.specs.Prelude.{slice_get}
use Rattle.std.proofs.lemmas.Option.{same_Some}
use Rattle.op_core.specs.ThreadCode.{Code}
use Rattle.op_core.specs.InPlaceList.{Entry, go_back}
use Rattle.op_core.proofs.PointwiseLemmas.{same_or_other}
use Rattle.thread_automaton.specs.declared.Bounds.{Bounds}
use Rattle.core_runs.specs.Cores.{Core}
use Rattle.core_runs.specs.Acts.{Act, mover}
use Rattle.core_law.specs.CleanCuts.{IsShownRun}
use Rattle.core_law.proofs.third_law.EntryLemmas.{IsGoBack}
use Rattle.core_law.proofs.run_journals.LevelSteps.{back_thread, back_place, LevelStep, levels_shut, level_opens, levels_undone, StepAt}
use Rattle.core_law.proofs.run_journals.RowSteps.{step_of}

drop_get : (j : ℕ) (xs : List ℕ) (i : ℕ) → slice_get (drop j xs) i ≡ slice_get xs (j + i)
drop_get zero xs i = ap (slice_get xs) (none_more i)
  where
    none_more : (i : ℕ) → i ≡ 0 + i
    none_more i = omega arith
drop_get (suc j) [] i = none_there i (suc j + i)
  where
    none_there : (i k : ℕ) → slice_get {X = ℕ} [] i ≡ slice_get {X = ℕ} [] k
    none_there zero zero = refl
    none_there zero (suc k) = refl
    none_there (suc i) zero = refl
    none_there (suc i) (suc k) = refl
drop_get (suc j) (x ∷ xs) i = drop_get j xs i ∙ ap (slice_get (x ∷ xs)) (next j i)
  where
    next : (j i : ℕ) → suc (j + i) ≡ suc j + i
    next j i = omega arith

drop_none : (j : ℕ) → ◌≡◌ {A = List ℕ} (drop j []) []
drop_none zero = refl
drop_none (suc j) = refl

drop_more : (i j : ℕ) (xs : List ℕ) → drop i (drop j xs) ≡ drop (j + i) xs
drop_more i zero xs = ap (λ n. drop n xs) (none_more i)
  where
    none_more : (i : ℕ) → i ≡ 0 + i
    none_more i = omega arith
drop_more i (suc j) [] = drop_none i ∙ sym (drop_none (suc j + i))
drop_more i (suc j) (x ∷ xs) = drop_more i j xs ∙ ap (λ n. drop n (x ∷ xs)) (next i j)
  where
    next : (i j : ℕ) → suc (j + i) ≡ suc j + i
    next i j = omega arith

module _ {S : Type 0} (code : Code S) (b : Bounds) (first : S) (classes : ℕ) (c : ℕ → Core S) (acts : List Act) (es : List Entry) (doomed : ℕ → Bool)
    (shown : IsShownRun code b first classes c acts es doomed) where
  -- number i of the open levels was opened earlier, at place q, where those after it were open
  pub record IsTail (k t i q : ℕ) : Type 0 where
    pub earlier : q < k
    pub outside : drop (suc i) ((c k).levels t) ≡ (c q).levels t

  abbrev pub AreTails : ℕ → Type 0
  AreTails k = (t i q : ℕ) → slice_get ((c k).levels t) i ≡ Some q → IsTail k t i q

  closed : (k t j : ℕ) → AreTails k → (c (suc k)).levels t ≡ drop j ((c k).levels t) → (i q : ℕ) → slice_get ((c (suc k)).levels t) i ≡ Some q → IsTail (suc k) t i q
  closed k t j was kept i q at =
      let before = was t (j + i) q (sym (drop_get j ((c k).levels t) i) ∙ ap (λ xs. slice_get xs i) (sym kept) ∙ at) in record {
        earlier = more before.earlier;
        outside = ap (drop (suc i)) kept ∙ drop_more (suc i) j ((c k).levels t) ∙ ap (λ n. drop n ((c k).levels t)) (next i j) ∙ before.outside;
      }
    where
      more : q < k → q < suc k
      more low = omega (arith, low)

      next : (i j : ℕ) → j + suc i ≡ suc (j + i)
      next i j = omega arith

  next_tails : (k : ℕ) (e : Entry) → StepAt code b first classes c acts es doomed shown k e → AreTails k → AreTails (suc k)
  next_tails k e step was t i q at = elim (same_or_other t (mover (Some step.act))) [
    | inr other ↦ closed k t 0 was (step.others t other) i q at
    | inl own ↦ subst (λ u. IsTail (suc k) u i q) (sym own) (by_level (mover (Some step.act)) step.level (subst (λ u. slice_get ((c (suc k)).levels u) i ≡ Some q) own at))
  ]
    where
      opened : (u : ℕ) → (c (suc k)).levels u ≡ k ∷ (c k).levels u → (i : ℕ) → slice_get (k ∷ (c k).levels u) i ≡ Some q → IsTail (suc k) u i q
      opened u kept zero at = record { earlier = now (same_Some k q at); outside = ap (drop 1) kept ∙ ap (λ n. (c n).levels u) (same_Some k q at) }
        where
          now : k ≡ q → q < suc k
          now same = omega (arith, same)
      opened u kept (suc i) at = let before = was u i q at in record { earlier = more before.earlier; outside = ap (drop (suc (suc i))) kept ∙ before.outside }
        where
          more : q < k → q < suc k
          more low = omega (arith, low)

      by_level : (u : ℕ) → LevelStep k u e ((c k).levels u) ((c (suc k)).levels u) → slice_get ((c (suc k)).levels u) i ≡ Some q → IsTail (suc k) u i q
      by_level u (levels_shut other m few kept) at = closed k u (length ((c k).levels u) - m) was kept i q at
      by_level u (level_opens is kept) at = opened u kept i (ap (λ xs. slice_get xs i) (sym kept) ∙ at)
      by_level u (levels_undone m p is low kept there) at = closed k u (length ((c k).levels u) - m) was kept i q at

  pub tails_at : (k : ℕ) → k ≤ length acts → AreTails k
  tails_at zero within = λ t i q at. absurd (none_open i (ap (λ xs. slice_get xs i) (sym (shown.levelled.closed t)) ∙ at))
    where
      none_open : {q : ℕ} (i : ℕ) → slice_get [] i ≡ Some q → ⊥
      none_open zero at = cc
      none_open (suc i) at = cc
  tails_at (suc k) within = let found = step_of code b first classes c acts es doomed shown k within in next_tails k found.0 found.2 (tails_at k (lower within))
    where
      lower : suc k ≤ length acts → k ≤ length acts
      lower within = omega (arith, within)

  -- entries go back to earlier places, at which the level wasn't open yet
  pub record GoesBackTo (k t p : ℕ) : Type 0 where
    pub earlier : p < k
    pub outside : (c (suc k)).levels t ≡ (c p).levels t

  pub goes_back_to : (k t p : ℕ) → k < length acts → slice_get es k ≡ Some (go_back t p) → GoesBackTo k t p
  goes_back_to k t p within at = by_step (step_of code b first classes c acts es doomed shown k within)
    where
      by_level : (u : ℕ) (e : Entry) → e ≡ go_back t p → LevelStep k u e ((c k).levels u) ((c (suc k)).levels u) → GoesBackTo k t p
      by_level u e same (levels_shut other m few kept) = absurd (other (subst IsGoBack (sym same) tt))
      by_level u e same (level_opens is kept) = absurd (subst IsGoBack (sym same ∙ is) tt)
      by_level u e same (levels_undone m q is low kept there) =
          let own : u ≡ t = ap back_thread (sym is ∙ same) in
          let place : q ≡ p = ap back_place (sym is ∙ same) in
          let tail = tails_at k (upto k (length acts) within) u (length ((c k).levels u) - suc m) q there in record {
            earlier = subst (λ n. n < k) place tail.earlier;
            outside = ap (c (suc k)).levels (sym own) ∙ kept ∙ ap (λ n. drop n ((c k).levels u)) (one_more (length ((c k).levels u)) m low) ∙ tail.outside ∙ ap (λ n. (c n).levels u) place ∙ ap (c p).levels own;
          }
        where
          one_more : (l m : ℕ) → m < l → l - m ≡ suc (l - suc m)
          one_more l m low = omega (arith, low)

          upto : (k n : ℕ) → k < n → k ≤ n
          upto k n is = omega (arith, is)

      by_step : (e : Entry) × (slice_get es k ≡ Some e) × StepAt code b first classes c acts es doomed shown k e → GoesBackTo k t p
      by_step (e, there, step) = by_level (mover (Some step.act)) e (same_Some e (go_back t p) (sym there ∙ at)) step.level
