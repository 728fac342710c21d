-- Runs that follow a schedule: who gets the next turn, and that a run has one end.
use Rattle.std.proofs.Common.{◌≡◌, inl, inr, ℕ, Bool, true, false, List, [], ◌∷◌, length, Option, None, Some, refl, sym, ◌∙◌, ap, subst, arith}
use Rattle.std.specs.Prelude.{slice_get, ◌&&◌, if◌then◌else◌}
use Rattle.std.specs.List.{Contains}
use Rattle.std.proofs.lemmas.List.Kept.{AllPairs-from_increasing}
use Rattle.std.proofs.lemmas.Option.{slice_get_within, get_or_from_slice_get}
use Rattle.std.proofs.Math.Bool.{and-false}
use Rattle.op_core.specs.declared.Limit.{Limit}
use Rattle.op_core.specs.declared.How.{How}
use Rattle.op_core.specs.declared.How.TheVariants.{Done, Died, Stuck}
use Rattle.op_core.specs.declared.How.TheVariants as how
use Rattle.schedules.specs.declared.order.OrderItem.{OrderItem}
use Rattle.schedules.specs.declared.order.TurnEnd.{TurnEnd}
use Rattle.schedules.specs.declared.order.TurnEnd.TheVariants.{Spent}
use Rattle.schedules.specs.Schedule.{thread_of, has_turns, due, drawn, place_of, rest_after}
use Rattle.schedules.specs.Run.{TurnSystem, AreThose, IsPicked, Run, due_of, GetsTurn, IsNext, IsTurn, Follows, AllHaveEnded, EndsOfItself, EndsWith, EndsBy, Goes}
use Rattle.schedules.proofs.ListLemmas.{head_there, tail_there, none_there, head_or_tail, Rises, Rises-head, Rises-tail}
use Rattle.schedules.specs.Laws.{IsDeterminate, RunsHaveOneEnd, RunsGoOn}

-- two with the same numbers are the same
pub one_list : (xs ys : List ℕ) → Rises xs → Rises ys → ((t : ℕ) → Contains xs t → Contains ys t) → ((t : ℕ) → Contains ys t → Contains xs t) → ys ≡ xs
one_list [] [] rises rise to from = refl
one_list [] (y ∷ ys) rises rise to from = absurd (none_there y (from y (head_there y ys)))
one_list (x ∷ xs) [] rises rise to from = absurd (none_there x (to x (head_there x xs)))
one_list (x ∷ xs) (y ∷ ys) rises rise to from =
    let heads : y ≡ x = elim (head_or_tail y x ys (to x (head_there x xs))) [
      | inl same ↦ same
      | inr above ↦ elim (head_or_tail x y xs (from y (head_there y ys))) [
        | inl same ↦ sym same
        | inr below ↦ absurd (omega (arith, Rises-head y x ys rise above, Rises-head x y xs rises below))
      ]
    ] in
    let forth : (t : ℕ) → Contains xs t → Contains ys t = λ t there. elim (head_or_tail y t ys (to t (tail_there x t xs there))) [
      | inl same ↦ absurd (omega (arith, heads, same, Rises-head x t xs rises there))
      | inr other ↦ other
    ] in
    let back : (t : ℕ) → Contains ys t → Contains xs t = λ t there. elim (head_or_tail x t xs (from t (tail_there y t ys there))) [
      | inl same ↦ absurd (omega (arith, heads, same, Rises-head y t ys rise there))
      | inr other ↦ other
    ] in
    ap (λ z. z ∷ ys) heads ∙ ap (λ zs. x ∷ zs) (one_list xs ys (Rises-tail x xs rises) (Rises-tail y ys rise) forth back)

-- one thread is picked, and it is enabled
module _ (enabled : ℕ → Type 0) where
  one_those : (ts us : List ℕ) → AreThose enabled ts → AreThose enabled us → us ≡ ts
  one_those ts us those them = one_list ts us
      (AllPairs-from_increasing ts those.rising) (AllPairs-from_increasing us them.rising)
      (λ t there. (them.each t).1 ((those.each t).0 there))
      (λ t there. (those.each t).1 ((them.each t).0 there))

  place_one : (number : Option ℕ) (ts us : List ℕ) (t u : ℕ) → us ≡ ts → slice_get ts (place_of number (length ts)) ≡ Some t → slice_get us (place_of number (length us)) ≡ Some u → u ≡ t
  place_one number ts us t u same at other =
      let there : slice_get ts (place_of number (length ts)) ≡ Some u = subst (λ xs. slice_get xs (place_of number (length xs)) ≡ Some u) same other in cc

  picked_one : (number : Option ℕ) (t u : ℕ) → IsPicked enabled number t → IsPicked enabled number u → u ≡ t
  picked_one number t u one other =
      place_one number one.threads other.threads t u (one_those one.threads other.threads one.those other.those) one.at_place other.at_place

  picked_enabled : (number : Option ℕ) (t : ℕ) → IsPicked enabled number t → enabled t
  picked_enabled number t picked =
      let place : ℕ = place_of number (length picked.threads) in
      (picked.those.each t).0 (place, slice_get_within picked.threads place t picked.at_place, get_or_from_slice_get picked.threads place t t picked.at_place)

-- no item gives a turn where no thread is live
due_none : (live : ℕ → Bool) (order : List OrderItem) → ((t : ℕ) → live t ≡ false) → due live order ≡ []
due_none live [] none = refl
due_none live (item ∷ order) none =
    ap (λ b. if b then item ∷ order else due live order) (ap (λ b. has_turns item && b) (none (thread_of item)) ∙ and-false (has_turns item))
    ∙ due_none live order none

run_same : {R : Type 0} (a b : Run R) → a.state ≡ b.state → a.rest ≡ b.rest → a ≡ b
run_same a b states rests = ap (λ x. record { state = x; rest = a.rest }) states ∙ ap (λ x. record { state = b.state; rest = x }) rests

module _ (R : Type 0) (system : TurnSystem R) (sure : IsDeterminate system) where
  gets_one : (r : R) (order : List OrderItem) (number : Option ℕ) (t u : ℕ) → GetsTurn system r order number t → GetsTurn system r order number u → u ≡ t
  gets_one r [] number t u one other = picked_one (system.enabled r) (drawn number) t u one other
  gets_one r (item ∷ order) number t u one other = other ∙ sym one

  next_one : (run : Run R) (t u : ℕ) → IsNext system run t → IsNext system run u → u ≡ t
  next_one run t u = gets_one run.state (due_of system run).order run.rest.number t u

  next_enabled : (run : Run R) (t : ℕ) → (due_of system run).order ≡ [] → IsNext system run t → system.enabled run.state t
  next_enabled run t through gets =
      picked_enabled (system.enabled run.state) (drawn run.rest.number) t (subst (λ order. GetsTurn system run.state order run.rest.number t) through gets)

  none_next : (run : Run R) (t : ℕ) → AllHaveEnded system run.state → IsNext system run t → ⊥
  none_next run t all gets =
      let live : system.live run.state t ≡ true = sure.enabled_live run.state t (next_enabled run t (due_none (system.live run.state) run.rest.order all) gets) in
      let over : system.live run.state t ≡ false = all t in cc

  turn_one : (run next other : Run R) (t u : ℕ) (end why : TurnEnd) → IsTurn system run t end next → IsTurn system run u why other → (u ≡ t) × (other ≡ next)
  turn_one run next other t u end why one two =
      let same : u ≡ t = next_one run t u one.gets two.gets in
      let given : (why ≡ end) × (other.state ≡ next.state) = sure.one_turn run.state next.state other.state t end why one.given (subst (λ x. system.gives run.state x why other.state) same two.given) in
      (same, run_same other next given.1 (two.leaves ∙ ap (rest_after (due_of system run)) given.0 ∙ sym one.leaves))

  -- where a run ends, no turn comes
  no_turn : (run next : Run R) (how : How) (t : ℕ) (end : TurnEnd) → EndsOfItself system run how → IsTurn system run t end next → ⊥
  no_turn run next Done t end ends turn = none_next run t ends.0 turn.gets
  no_turn run next Died t end ends turn = none_next run t ends.0 turn.gets
  no_turn run next Stuck t end ends turn = ends.none_enabled t (next_enabled run t ends.through turn.gets)
  no_turn run next (how.Limit u limit) t end ends turn =
      let same : t ≡ u = next_one run u t ends.0 turn.gets in
      turn.unspent limit (sure.one_turn run.state run.state next.state u (Spent limit) end ends.1 (subst (λ x. system.gives run.state x end next.state) same turn.given)).0

  -- it ends in one way
  ends_one : (run : Run R) (how why : How) → EndsOfItself system run how → EndsOfItself system run why → why ≡ how
  ends_one run Done Done ends other = refl
  ends_one run Done Died ends other = absurd (ends.1 other.1.0 other.1.1 other.1.2)
  ends_one run Done Stuck ends other = let over : system.live run.state other.some_live.0 ≡ false = ends.0 other.some_live.0 in let live : system.live run.state other.some_live.0 ≡ true = other.some_live.1 in cc
  ends_one run Done (how.Limit t limit) ends other = absurd (none_next run t ends.0 other.0)
  ends_one run Died Done ends other = absurd (other.1 ends.1.0 ends.1.1 ends.1.2)
  ends_one run Died Died ends other = refl
  ends_one run Died Stuck ends other = let over : system.live run.state other.some_live.0 ≡ false = ends.0 other.some_live.0 in let live : system.live run.state other.some_live.0 ≡ true = other.some_live.1 in cc
  ends_one run Died (how.Limit t limit) ends other = absurd (none_next run t ends.0 other.0)
  ends_one run Stuck Done ends other = let over : system.live run.state ends.some_live.0 ≡ false = other.0 ends.some_live.0 in let live : system.live run.state ends.some_live.0 ≡ true = ends.some_live.1 in cc
  ends_one run Stuck Died ends other = let over : system.live run.state ends.some_live.0 ≡ false = other.0 ends.some_live.0 in let live : system.live run.state ends.some_live.0 ≡ true = ends.some_live.1 in cc
  ends_one run Stuck Stuck ends other = refl
  ends_one run Stuck (how.Limit t limit) ends other = absurd (ends.none_enabled t (next_enabled run t ends.through other.0))
  ends_one run (how.Limit t limit) Done ends other = absurd (none_next run t other.0 ends.0)
  ends_one run (how.Limit t limit) Died ends other = absurd (none_next run t other.0 ends.0)
  ends_one run (how.Limit t limit) Stuck ends other = absurd (other.none_enabled t (next_enabled run t other.through ends.0))
  ends_one run (how.Limit t limit) (how.Limit u met) ends other =
      let same : u ≡ t = next_one run t u ends.0 other.0 in
      let spent : Spent met ≡ Spent limit = (sure.one_turn run.state run.state run.state t (Spent limit) (Spent met) ends.1 (subst (λ x. system.gives run.state x (Spent met) run.state) same other.1)).0 in
      let limits : met ≡ limit = cc in
      ap (λ x. how.Limit x met) same ∙ ap (how.Limit t) limits

  no_turn_by : (run next : Run R) (how : How) (t : ℕ) (end : TurnEnd) → EndsBy system run how → IsTurn system run t end next → ⊥
  no_turn_by run next how t end ends turn =
      no_turn run next how t end (subst (λ x. EndsWith system run x how) turn.goes_on ends) turn

  ends_with_one : (run : Run R) (stop : Option (ℕ × Limit)) (how why : How) → EndsWith system run stop how → EndsWith system run stop why → why ≡ how
  ends_with_one run None how why ends other = ends_one run how why ends other
  ends_with_one run (Some (t, limit)) how why ends other = other ∙ sym ends

  one_run : (run last other : Run R) (ts us : List ℕ) (end why : How) → Goes system run ts end last → Goes system run us why other → (us ≡ ts) × (why ≡ end) × (other ≡ last)
  one_run run last other [] [] end why (here, ends) (there, ended) =
      (refl, ends_with_one run (system.stopped run.state) end why (subst (λ r. EndsBy system r end) here ends) (subst (λ r. EndsBy system r why) there ended), there ∙ sym here)
  one_run run last other [] (u ∷ us) end why (here, ends) ((came, next, turn, later), ended) =
      absurd (no_turn_by run next end u came (subst (λ r. EndsBy system r end) here ends) turn)
  one_run run last other (t ∷ ts) [] end why ((came, next, turn, later), ends) (there, ended) =
      absurd (no_turn_by run next why t came (subst (λ r. EndsBy system r why) there ended) turn)
  one_run run last other (t ∷ ts) (u ∷ us) end why ((came, next, turn, later), ends) ((went, behind, go, on), ended) =
      let same : (u ≡ t) × (behind ≡ next) = turn_one run next behind t u came went turn go in
      let rest : (us ≡ ts) × (why ≡ end) × (other ≡ last) = one_run next last other ts us end why (later, ends) (subst (λ r. Follows system r us other) same.1 on, ended) in
      (ap (λ x. x ∷ us) same.0 ∙ ap (λ xs. t ∷ xs) rest.0, rest.1, rest.2)

pub one_end : (R : Type 0) (system : TurnSystem R) → RunsHaveOneEnd system
one_end R system run last other ts us end why sure one two = one_run R system sure run last other ts us end why one two

pub go_on : (R : Type 0) (system : TurnSystem R) → RunsGoOn system
go_on R system run next last [] us first later = subst (λ r. Follows system r us last) first later
go_on R system run next last (t ∷ ts) us (end, behind, turn, first) later =
    (end, behind, turn, go_on R system behind next last ts us first later)
