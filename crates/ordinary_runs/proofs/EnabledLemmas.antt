-- Which threads are enabled: the answer of `advance` decides. Where no number is drawn, the lowest one is picked.
use Rattle.std.proofs.Common.{◌≡◌, inl, inr, ℕ, zero, suc, ◌+◌, ◌<◌, List, [], ◌∷◌, ◌++◌, slice_get, Some, None, refl, sym, ◌∙◌, ap, subst, arith}
use Rattle.std.proofs.lemmas.List.Kept.{AllPairs-from_increasing}
use Rattle.op_core.specs.declared.Limits.{Limits}
use Rattle.op_core.specs.ThreadCode.{Code}
use Rattle.schedules.specs.declared.order.TurnEnd.{TurnEnd}
use Rattle.schedules.specs.declared.order.TurnEnd.TheVariants.{Blocked}
use Rattle.schedules.specs.Run.{AreThose, IsPicked}
use Rattle.schedules.specs.Laws.{AreThoseBelow}
use Rattle.schedules.proofs.ListLemmas.{none_there, head_there, head_or_tail, Rises-head}
use Rattle.ordinary_machine.specs.declared.ordinary.Ordinary.{Ordinary}
use Rattle.ordinary_machine.specs.declared.advance.Advance.{Advance}
use Rattle.ordinary_machine.specs.declared.advance.Advance.TheVariants as advance
use Rattle.ordinary_machine.specs.Machine.{Machine, machine_of}
use Rattle.ordinary_machine.specs.Advance.{Advances, MayAdvance}
use Rattle.ordinary_machine.proofs.DecidedLemmas.{Decided, may_decided, begun_below}
use Rattle.ordinary_runs.specs.Turns.{Progress, end_of, counted_after, events_after, MakesTurn, GivesIfEnabled}
use Rattle.ordinary_runs.proofs.EndLemmas.{none_listed, one_more_listed, no_more_listed, all_listed}
use Rattle.ordinary_runs.proofs.TurnLemmas.{none_more}

-- a list of the threads below n for which the fact holds
listed_below : (fact : ℕ → Type 0) → ((t : ℕ) → Decided (fact t)) → (n : ℕ) → (ts : List ℕ) × AreThoseBelow fact n ts
listed_below fact decided zero = ([], none_listed fact)
listed_below fact decided (suc n) =
    let (ts, those) = listed_below fact decided n in
    let next : n + 1 ≡ suc n = omega arith in
    elim (decided n) [
      | inl holds ↦ (ts ++ n ∷ [], subst (λ k. AreThoseBelow fact k (ts ++ n ∷ [])) next (one_more_listed fact n ts those holds))
      | inr never ↦ (ts, subst (λ k. AreThoseBelow fact k ts) next (no_more_listed fact n ts those never))
    ]

-- the lowest one comes first
lowest_first : (fact : ℕ → Type 0) (ts : List ℕ) (t : ℕ) → AreThose fact ts → fact t → ((u : ℕ) → u < t → fact u → ⊥) → slice_get ts 0 ≡ Some t
lowest_first fact [] t those holds none = absurd (none_there t ((those.each t).1 holds))
lowest_first fact (x ∷ xs) t those holds none = elim (head_or_tail x t xs ((those.each t).1 holds)) [
  | inl same ↦ ap Some same
  | inr later ↦ absurd (none x (Rises-head x t xs (AllPairs-from_increasing (x ∷ xs) those.rising) later) ((those.each x).0 (head_there x xs)))
]

-- the lowest enabled thread is picked where no number is drawn
pub lowest_picked : {C S : Type 0} (code : Code S) (state : C → S) (machine : Ordinary C) (t : ℕ) → MayAdvance code (machine_of state machine) t → ((u : ℕ) → u < t → MayAdvance code (machine_of state machine) u → ⊥)
    → IsPicked (MayAdvance code (machine_of state machine)) None t
lowest_picked code state machine t may none =
    let enabled = MayAdvance code (machine_of state machine) in
    let (ts, below) = listed_below enabled (may_decided code state machine) 256 in
    let those = all_listed enabled 256 ts below (λ u does. begun_below state machine u does.begun) in
    record { threads = ts; those = those; at_place = lowest_first enabled ts t those may none }

-- Where `advance` answers that a thread is blocked, it isn't enabled.
blocked_never : {S : Type 0} (code : Code S) (m new : Machine S) (t : ℕ) (limits : Limits) (answer : Advance) → Advances code m t limits answer new → end_of answer ≡ Blocked → (MayAdvance code m t → ⊥) × (new ≡ m)
blocked_never code m new t limits advance.Silent came blocked = absurd (cc)
blocked_never code m new t limits (advance.Step e) came blocked = absurd (cc)
blocked_never code m new t limits advance.Waits came blocked = ((λ may. may.goes_on limits came.0), came.1)
blocked_never code m new t limits advance.Halts came blocked = ((λ may. may.more (inr came.0)), came.1)
blocked_never code m new t limits advance.Ended came blocked = ((λ may. may.more (inl came.0)), came.1)
blocked_never code m new t limits (advance.Spent limit) came blocked = absurd (cc)

-- So a turn that is blocked is none.
blocked_same : {S : Type 0} (r : Progress S) (t : ℕ) (answer : Advance) → end_of answer ≡ Blocked → (counted_after t answer r.counted ≡ r.counted) × (events_after answer r.events ≡ r.events)
blocked_same r t advance.Silent blocked = absurd (cc)
blocked_same r t (advance.Step e) blocked = absurd (cc)
blocked_same r t (advance.Spent limit) blocked = absurd (cc)
blocked_same r t _ blocked = (refl, none_more r.events)

pub blocked_gives : {S : Type 0} (code : Code S) (limits : Limits) (r new : Progress S) (t : ℕ) (end : TurnEnd) → MakesTurn code limits r t end new → end ≡ Blocked → GivesIfEnabled code limits r t None new
blocked_gives code limits r new t end turn blocked =
    let is : end_of turn.answer ≡ Blocked = sym turn.comes ∙ blocked in
    let (never, machine) = blocked_never code r.machine new.machine t limits turn.answer turn.advances is in
    let (counted, events) = blocked_same r t turn.answer is in
    let counts = turn.counts ∙ counted in
    let kept = turn.kept ∙ events in
    (never, λ i. record { machine = machine i; counted = counts i; events = kept i })
