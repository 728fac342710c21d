-- The lowest thread that can go on is the one that is picked where no number is drawn.
use Rattle.std.proofs.Common.{◌≡◌, ◌⊎◌, inl, inr, ℕ, zero, suc, ◌+◌, ◌<◌, ◌≤◌, Bool, true, false, List, [], ◌∷◌, ◌++◌, slice_get, Option, None, Some, refl, ap, subst, arith}
use Rattle.std.proofs.lemmas.Bool.{cases_lt}
use Rattle.std.proofs.lemmas.List.Kept.{AllPairs-from_increasing}
use Rattle.op_core.specs.ThreadCode.{Code}
use Rattle.schedules.specs.Run.{AreThose, IsPicked}
use Rattle.schedules.specs.Laws.{AreThoseBelow}
use Rattle.schedules.proofs.ListLemmas.{none_there, head_there, head_or_tail, Rises-head}
use Rattle.thread_automaton.specs.ThreadState.{ThreadState}
use Rattle.word_runs.specs.Enabled.{is_enabled}
use Rattle.word_runs.specs.WordTurns.{Progress, IsEnabledIn}
use Rattle.sched_core.proofs.ListLemmas.{none_listed, one_more_listed, no_more_listed, all_listed}

-- ---- of any fact that is decided

-- a list of the threads below n for which the fact holds
listed_below : (fact : ℕ → Type 0) → ((t : ℕ) → fact t ⊎ (fact t → ⊥)) → (n : ℕ) → (ts : List ℕ) × AreThoseBelow fact n ts
listed_below fact decided zero = ([], none_listed fact)
listed_below fact decided (suc n) =
    let (ts, those) = listed_below fact decided n in
    let next : n + 1 ≡ suc n = omega arith in
    elim (decided n) [
      | inl holds ↦ (ts ++ n ∷ [], subst (λ k. AreThoseBelow fact k (ts ++ n ∷ [])) next (one_more_listed fact n ts those holds))
      | inr never ↦ (ts, subst (λ k. AreThoseBelow fact k ts) next (no_more_listed fact n ts those never))
    ]

-- the lowest one comes first
lowest_first : (fact : ℕ → Type 0) (ts : List ℕ) (t : ℕ) → AreThose fact ts → fact t → ((u : ℕ) → u < t → fact u → ⊥) → slice_get ts 0 ≡ Some t
lowest_first fact [] t those holds none = absurd (none_there t ((those.each t).1 holds))
lowest_first fact (x ∷ xs) t those holds none = elim (head_or_tail x t xs ((those.each t).1 holds)) [
  | inl same ↦ ap Some same
  | inr later ↦ absurd (none x (Rises-head x t xs (AllPairs-from_increasing (x ∷ xs) those.rising) later) ((those.each x).0 (head_there x xs)))
]

-- ---- of the threads of a run

decided_at : {S : Type 0} (code : Code S) (r : Progress S) (th : Option (ThreadState S)) → IsEnabledIn code r th ⊎ (IsEnabledIn code r th → ⊥)
decided_at code r None = inr (λ none. none)
decided_at code r (Some th) = by_test (is_enabled code r.core.words th)
  where
    by_test : (b : Bool) → (b ≡ true) ⊎ (b ≡ true → ⊥)
    by_test true = inl refl
    by_test false = inr (λ is. cc)

none_there_is : {S : Type 0} (code : Code S) (r : Progress S) (th : Option (ThreadState S)) → th ≡ None → IsEnabledIn code r th → ⊥
none_there_is code r th is can = subst (IsEnabledIn code r) is can

-- no thread has a number from 256 on
pub lowest_picked : {S : Type 0} (code : Code S) (r : Progress S) (t : ℕ) → ((u : ℕ) → 256 ≤ u → r.core.threads u ≡ None) → IsEnabledIn code r (r.core.threads t) → ((u : ℕ) → u < t → IsEnabledIn code r (r.core.threads u) → ⊥)
    → IsPicked (λ u. IsEnabledIn code r (r.core.threads u)) None t
lowest_picked {S} code r t few can none =
    let fact : ℕ → Type 0 = λ u. IsEnabledIn code r (r.core.threads u) in
    let (ts, below) = listed_below fact (λ u. decided_at code r (r.core.threads u)) 256 in
    let those = all_listed fact 256 ts below within in
    record { threads = ts; those = those; at_place = lowest_first fact ts t those can none }
  where
    within : (u : ℕ) → IsEnabledIn code r (r.core.threads u) → u < 256
    within u does = elim (cases_lt u 256) [
      | inl low ↦ low
      | inr past ↦ absurd (none_there_is code r (r.core.threads u) (few u past) does)
    ]
